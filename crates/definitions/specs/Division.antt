-- What a division leaves (document 02, S-4): quotient and remainder together.
use Rattle.std.specs.Prelude.{ℕ, ◌+◌, ◌*◌, ◌/◌, ◌%◌, ◌<◌, ◌≡◌, leb}
use Rattle.definitions.specs.declared.Division.{Division}
use Rattle.definitions.specs.Sums.{pick}

-- n by c is q, and r is left over
pub record Divides (n c q r : ℕ) : Type 0 where
  pub whole : q * c + r ≡ n
  pub rest : r < c

-- n by c, to the nearest, is p: one more than the quotient where twice r, which is left over, reaches c
pub record Rounds (n c p r : ℕ) : Type 0 where
  pub quotient : ℕ
  pub divides : Divides n c quotient r
  pub rounded : p ≡ quotient + pick (leb c (2 * r)) 1 0

-- n by c, where c is not 0
abbrev pub division : ℕ → ℕ → Division
division n c = record { quotient = n / c; remainder = n % c }
