-- `reader::ModelFile::rewards_at` meets its contract: there are at most 64 weights. Assumes nothing.
use Rattle.std.specs.Prelude.{◌*◌, ◌≤◌}
use Rattle.std.proofs.Common.{mul-le-mul, arith}
use Rattle.laws.specs.ChainLaws.{distributions_max}
use Rattle.reader.proofs.ModelFile.rewards_at.Goals.{After-state_count}
use Rattle.reader.proofs.ModelFile.rewards_at.Goals as goal

most : (c : After-state_count) → c.distributions.result * c.state_count.result ≤ 1 * 64
most c = mul-le-mul {n₂ = 1} {m₂ = 64} (omega (arith, c.distributions.ensures, distributions_max c.self.inside.head)) (omega (arith, c.state_count.ensures, c.self.invariant.states_max))

pub overflow_mul-weights : goal.overflow_mul-weights
overflow_mul-weights c = omega (arith, most c)

pub overflow_mul-result : goal.overflow_mul-result
overflow_mul-result c = omega (arith, most c)

pub overflow_add-result : goal.overflow_add-result
overflow_add-result c = omega (arith, most c)

pub returns-clause-most : goal.returns-clause-most
returns-clause-most c = omega (arith, most c)
