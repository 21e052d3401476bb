-- The arithmetic under the proofs of the functions, over plain numbers. Assumes nothing.
use Rattle.std.specs.Prelude.{◌≡◌, ℕ, ◌+◌, ◌-◌, ◌*◌, ◌/◌, ◌%◌, ◌^◌, ◌<◌}
use Rattle.std.proofs.Common.{ap, ◌∙◌, shr-shr, arith}
use Rattle.definitions.specs.declared.Division.{Division}
use Rattle.definitions.specs.Division.{Divides, division}
use Rattle.laws.specs.Rounding.{quotient_remainder, drops, remainder}
use Rattle.muldiv.specs.MulDiv.{Walked}

-- a × n, by n without its last bit: doubled, with a once more where that bit is set
doubled : (a n : ℕ) → 2 * (a * (n / 2)) + a * (n % 2) ≡ a * n
doubled a n = omega (arith, ap (λ (k : ℕ). a * k) (quotient_remainder n 2))

-- one bit more, bit left - 1: what was left over is doubled, with a once more where the bit is set, and that sum is divided by c
pub walk_goes_on : (a b c left q r sum : ℕ) (d : Division) → Walked a b c left q r → d ≡ division sum c → sum ≡ 2 * r + a * (b / 2 ^ (left - 1) % 2) → 0 < left → 0 < c → Walked a b c (left - 1) (2 * q + d.quotient) d.remainder
walk_goes_on a b c left q r sum d walked divided is_sum some pos =
    let n : ℕ = b / 2 ^ (left - 1) in
    let here : left - 1 + 1 ≡ left = omega arith in
    let before : a * (n / 2) ≡ a * (b / 2 ^ left) = ap (λ (k : ℕ). a * k) (shr-shr b (left - 1) 1 ∙ ap (λ (k : ℕ). b / 2 ^ k) here) in
    omega (arith, doubled a n, drops sum c divided pos, ap remainder divided)

-- the walk's end: no bit is still to come
pub walk_ends : (a b c q r : ℕ) → Walked a b c 0 q r → Divides (a * b) c q r
walk_ends a b c q r walked =
    let all : a * (b / 1) ≡ a * b = ap (λ (n : ℕ). a * n) (omega arith) in
    omega arith

-- a × b by c, from a = (a / c) × c + a % c: the remainder is that of (a % c) × b alone
pub joined : (a b c q r : ℕ) → Divides (a % c * b) c q r → Divides (a * b) c (a / c * b + q) r
joined a b c q r low = omega (arith, ap (λ (n : ℕ). n * b) (quotient_remainder a c))
