-- Rounding to the nearest, a half going up, argued once for any divisor. `a / 0` is 0, so a law that needs a divisor says `0 < c`.
-- Assumes nothing.
use Rattle.std.specs.Prelude.{ℕ, ◌+◌, ◌*◌, ◌/◌, ◌%◌, ◌<◌, ◌≤◌, ◌≡◌, leb}
use Rattle.std.proofs.Common.{arith, le-leb}
use Rattle.std.proofs.Math.Decide.{dec_le}
use Rattle.std.proofs.lemmas.Bool.{lt-leb}
use Rattle.definitions.specs.Sums.{pick}
use Rattle.definitions.specs.Division.{Rounds}
use Rattle.definitions.specs.Moment.{nearest, WithinHalf}
use Rattle.laws.specs.Rounding.{quotient_mono, quotient_below, quotient_remainder, between_multiples, remainder_below, divides}

-- the nearest number is at most one half away
pub nearest_within : (a c : ℕ) → 0 < c → WithinHalf a c (nearest a c)
unfolding nearest
nearest_within a c pos = omega arith

-- and a number is the nearest that is at most one half above a / c, or less than one half below it
pub nearest_is : (a c n : ℕ) → 2 * (n * c) ≤ 2 * a + c → 2 * a < 2 * (n * c) + c → nearest a c ≡ n
unfolding nearest
nearest_is a c n above below = (between_multiples (2 * a + c) (2 * c) n (omega arith) (omega arith)).0

-- a half goes up
pub half_up : (a c n : ℕ) → 0 < c → 2 * a ≡ 2 * (n * c) + c → nearest a c ≡ n + 1
half_up a c n pos half = nearest_is a c (n + 1) (omega arith) (omega arith)

-- what is at most k divisors rounds to at most k
pub nearest_at_most : (a k c : ℕ) → 0 < c → a ≤ k * c → nearest a c ≤ k
unfolding nearest
nearest_at_most a k c pos h = omega (arith, quotient_below (2 * a + c) (k + 1) (2 * c) (omega arith))

-- a larger number rounds to no smaller one
pub nearest_mono : (a b c : ℕ) → a ≤ b → nearest a c ≤ nearest b c
unfolding nearest
nearest_mono a b c h = quotient_mono (2 * a + c) (2 * b + c) (2 * c) (omega arith)

-- by the remainder: one more than the quotient where twice the remainder reaches the divisor, and the quotient where it does not
pub nearest_up : (a c : ℕ) → 0 < c → c ≤ 2 * (a % c) → nearest a c ≡ a / c + 1
nearest_up a c pos l = nearest_is a c (a / c + 1) (omega (arith, quotient_remainder a c)) (omega (arith, quotient_remainder a c, remainder_below a c pos))

pub nearest_down : (a c : ℕ) → 2 * (a % c) < c → nearest a c ≡ a / c
nearest_down a c l = nearest_is a c (a / c) (omega (arith, quotient_remainder a c)) (omega (arith, quotient_remainder a c))

-- so the nearest number rounds the quotient by the remainder
pub nearest_rounds : (a c : ℕ) → 0 < c → Rounds a c (nearest a c) (a % c)
nearest_rounds a c pos = record { quotient = a / c; divides = divides a c pos; rounded = from (dec_le c (2 * (a % c))) }
  where
    from : Dec (c ≤ 2 * (a % c)) → nearest a c ≡ a / c + pick (leb c (2 * (a % c))) 1 0
    from (yes l) = rw (le-leb c (2 * (a % c)) l) (nearest_up a c pos l)
    from (no l) = rw (lt-leb c (2 * (a % c)) (omega (arith, l))) (omega (arith, nearest_down a c (omega (arith, l))))
