-- Quotient and remainder, argued once for any divisor: every other proof cites these. `a / 0` is 0, so a law that needs a divisor says `0 < c`.
-- Assumes nothing.
use Rattle.std.specs.Prelude.{◌≡◌, ℕ, ◌+◌, ◌-◌, ◌*◌, ◌/◌, ◌%◌, ◌<◌, ◌≤◌, zero, suc}
use Rattle.std.proofs.Common.{ap, ap₂, div-mul-le_self, div-add-mod', mod-lt, mul-le-mul_right, arith, le_refl}
use Rattle.std.proofs.Math.Nat.{lt-div-mul-add, div-eq_of_lt-le, div-le_of_le-mul, div-zero}
use Rattle.std.proofs.lemmas.Nat.{le-div, div-mul-add, mod-mul-add, row_below_turned}
use Rattle.std.proofs.Math.Arith.{digits_lt}
use Rattle.definitions.specs.declared.Division.{Division}
use Rattle.definitions.specs.Division.{Divides, division}

-- the quotient times the divisor does not pass the number
pub quotient_low : (a c : ℕ) → a / c * c ≤ a
quotient_low a c = div-mul-le_self a c

-- and one divisor more passes it
pub quotient_high : (a c : ℕ) → 0 < c → a < (a / c + 1) * c
quotient_high a c pos = omega (arith, lt-div-mul-add {a = a} pos)

-- what is at most k divisors has a quotient of at most k
pub quotient_at_most : (a k c : ℕ) → a ≤ k * c → a / c ≤ k
quotient_at_most a k c h = div-le_of_le-mul c (omega arith)

-- what is at least k divisors has a quotient of at least k
pub quotient_at_least : (a k c : ℕ) → 0 < c → k * c ≤ a → k ≤ a / c
quotient_at_least a k c pos h = le-div k a c pos h

-- a larger number has no smaller quotient
pub quotient_mono : (a b c : ℕ) → a ≤ b → a / c ≤ b / c
quotient_mono a b zero h = simp div-zero (omega arith)
quotient_mono a b (suc c) h = quotient_at_least b (a / suc c) (suc c) (omega arith) (omega (arith, quotient_low a (suc c)))

-- a number of divisors with a rest below the divisor is the quotient
pub quotient_unique : (a c q r : ℕ) → r < c → q * c + r ≡ a → a / c ≡ q
quotient_unique a c q r rest whole = div-eq_of_lt-le c (omega arith) (omega arith)

-- what is below k divisors has a quotient below k
pub quotient_below : (a k c : ℕ) → a < k * c → a / c < k
quotient_below a k c h = (row_below_turned a c k c h (le_refl c)).1

-- the quotient's divisors and the remainder are the number
pub quotient_remainder : (a c : ℕ) → a / c * c + a % c ≡ a
quotient_remainder a c = div-add-mod' a c

pub remainder_below : (a c : ℕ) → 0 < c → a % c < c
remainder_below a c pos = mod-lt a pos

-- so a by c is the quotient, and the remainder is left over
pub divides : (a c : ℕ) → 0 < c → Divides a c (a / c) (a % c)
divides a c pos = record { whole = quotient_remainder a c; rest = remainder_below a c pos }

-- a number of divisors with a rest below the divisor has that rest as its remainder
pub remainder_unique : (a c q r : ℕ) → r < c → q * c + r ≡ a → a % c ≡ r
remainder_unique a c q r rest whole = grind arith

-- two divisions with the same quotient and the same remainder
pub same_parts : (d e : Division) → d.quotient ≡ e.quotient → d.remainder ≡ e.remainder → d ≡ e
same_parts d e p q = grind arith

-- so where n by c is q, and r is left over, they are its quotient and remainder
pub division_is : (n c q r : ℕ) → Divides n c q r → record { quotient = q; remainder = r } ≡ division n c
division_is n c q r d = grind arith

-- what a division hands back, for `ap`: its quotient and its remainder
abbrev pub quotient : Division → ℕ
quotient d = d.quotient

abbrev pub remainder : Division → ℕ
remainder d = d.remainder

-- its quotient, with the remainder that goes with it
pub drops : (n c : ℕ) {d : Division} → d ≡ division n c → 0 < c → Divides n c d.quotient (n % c)
drops n c e pos = rw e (divides n c pos)

-- from k divisors on, and below one more: the divisor goes k times into the number
pub between_multiples : (a c k : ℕ) → k * c ≤ a → a < k * c + c → (a / c ≡ k) × (a % c ≡ a - k * c)
between_multiples a c k low high = grind arith

-- rows of c places, one after the other: place k of row i is place i × c + k, before the end of the last row
pub row_of_place : (i k c : ℕ) → k < c → (i * c + k) / c ≡ i
row_of_place i k c h = div-mul-add i c k h

pub place_in_row : (i k c : ℕ) → k < c → (i * c + k) % c ≡ k
place_in_row i k c h = mod-mul-add i c k h

pub place_below : (i k rows c : ℕ) → i < rows → k < c → i * c + k < rows * c
place_below i k rows c h l = digits_lt h l

-- a product by k × k, from both factors cut at k: what the lower parts carry goes to the middle products, and what these carry to the upper one
pub divides_in_parts : (a b k : ℕ) → 0 < k →
    let low = a % k * (b % k) in
    let middle = a / k * (b % k) + a % k * (b / k) + low / k in
    Divides (a * b) (k * k) (a / k * (b / k) + middle / k) (middle % k * k + low % k)
divides_in_parts a b k pos = record { whole = whole; rest = omega (arith, mul-le-mul_right k left, remainder_below low k pos) }
  where
    a1 : ℕ
    a1 = a / k

    a0 : ℕ
    a0 = a % k

    b1 : ℕ
    b1 = b / k

    b0 : ℕ
    b0 = b % k

    low : ℕ
    low = a0 * b0

    middle : ℕ
    middle = a1 * b0 + a0 * b1 + low / k

    left : middle % k + 1 ≤ k
    left = omega (arith, remainder_below middle k pos)

    -- both sides are a1 × b1 × k × k + middle × k + low % k
    whole : (a1 * b1 + middle / k) * (k * k) + (middle % k * k + low % k) ≡ a * b
    whole =
        omega
        (arith, ap (λ (n : ℕ). n * k) (quotient_remainder middle k), quotient_remainder low k, ap₂ ◌*◌ (quotient_remainder a k) (quotient_remainder b k))
