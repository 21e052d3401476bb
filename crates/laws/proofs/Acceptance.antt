-- What every model's chain has.
use Rattle.std.proofs.Common.{arith}
use Rattle.definitions.specs.Chain.{Model, chain_of}
use Rattle.laws.specs.ChainLaws.{row_sums_to_rate, reward_le_largest}
use Rattle.laws.specs.VectorLaws.{Stochastic}

-- the chain of a model is one that the recurrence stays in range on
pub stochastic : (m : Model) → Stochastic (chain_of m)
stochastic m = record { row = λ i l. omega (arith, row_sums_to_rate m i l); reward = λ i l. reward_le_largest m i l }
