-- Fractions of whole numbers, with a denominator above 0 by construction. Nothing is rounded.
use Rattle.std.specs.Prelude.{ℕ, zero, suc, ◌+◌, ◌*◌, ◌≤◌, ◌<◌, ◌≡◌}
use Rattle.std.proofs.Common.{mul-pos, zero-lt-suc}

pub record Fraction : Type 0 where
  pub num : ℕ
  pub den : ℕ
  pub pos : 0 < den

-- x is at most y, by cross-multiplication; both denominators are above 0
pub record AtMost (x y : Fraction) : Type 0 where
  pub cross : x.num * y.den ≤ y.num * x.den

-- x and y are the same number
pub record Same (x y : Fraction) : Type 0 where
  pub cross : x.num * y.den ≡ y.num * x.den

-- a over d
abbrev pub ratio : ℕ → (d : ℕ) → 0 < d → Fraction
ratio a d h = record { num = a; den = d; pos = h }

-- a whole number
abbrev pub whole : ℕ → Fraction
whole a = ratio a 1 (zero-lt-suc 0)

abbrev pub plus : Fraction → Fraction → Fraction
plus x y = ratio (x.num * y.den + y.num * x.den) (x.den * y.den) (mul-pos x.pos y.pos)

abbrev pub times : Fraction → Fraction → Fraction
times x y = ratio (x.num * y.num) (x.den * y.den) (mul-pos x.pos y.pos)

-- x over a whole number d above 0
abbrev pub over_whole : Fraction → (d : ℕ) → 0 < d → Fraction
over_whole x d h = ratio x.num (x.den * d) (mul-pos x.pos h)

-- x over a fraction y above 0
abbrev pub quotient : Fraction → (y : Fraction) → 0 < y.num → Fraction
quotient x y h = ratio (x.num * y.den) (x.den * y.num) (mul-pos x.pos h)

-- f 0 + … + f (n − 1)
unfoldable pub total : ℕ → (ℕ → Fraction) → Fraction
total zero f = whole 0
total (suc n) f = plus (total n f) (f n)

-- x^n
unfoldable pub power : Fraction → ℕ → Fraction
power x zero = whole 1
power x (suc n) = times (power x n) x
