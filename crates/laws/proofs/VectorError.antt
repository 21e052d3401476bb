-- The vectors' error: U ≤ ONE·u ≤ U + 2(n + r) at every state, and u ≤ 1.
use Rattle.std.specs.Prelude.{ℕ, zero, suc, ◌+◌, ◌*◌, ◌<◌}
use Rattle.definitions.specs.Chain.{Chain}
use Rattle.definitions.specs.Vectors.{ONE, U}
use Rattle.definitions.specs.Average.{Proper, exact_u}
use Rattle.laws.specs.VectorLaws.{Stochastic}
use Rattle.laws.specs.VectorError.{Near, first_near, next_near}

module _ (ch : Chain) (p : Proper ch) (s : Stochastic ch) where
  -- U ≤ ONE·u ≤ U + 2(n + r), and u ≤ 1
  pub vector_near : (n r i : ℕ) → i < ch.states → Near (U ch n r i) (2 * (n + r)) ONE (exact_u ch p n r i)
  vector_near zero = first_near ch p s
  vector_near (suc n) = next_near ch p s n (vector_near n)
