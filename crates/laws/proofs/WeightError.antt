-- The exact weights over their common divisor.
use Rattle.std.specs.Prelude.{ℕ, ◌≤◌}
use Rattle.std.proofs.Common.{arith}
use Rattle.definitions.specs.Average.{exact_weight}
use Rattle.laws.specs.FractionLaws.{Low, High}
use Rattle.laws.specs.WeightError.{divisor, z, over_divisor}

module _ (X : ℕ) where
  pub exact_low : (L n : ℕ) → n ≤ L → Low (z X L n) (divisor X L) (exact_weight X n)
  exact_low L n h = record { low = omega (arith, over_divisor X L n h) }

  pub exact_high : (L n : ℕ) → n ≤ L → High (z X L n) (divisor X L) (exact_weight X n)
  exact_high L n h = record { high = omega (arith, over_divisor X L n h) }
