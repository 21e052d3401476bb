-- `reader::ModelFile::block_size` meets its contract. Assumes nothing.
use Rattle.std.specs.Prelude.{ℕ, ◌+◌, ◌*◌, ◌≤◌, ◌≡◌}
use Rattle.std.proofs.Common.{ap₂, arith, mul-le-mul}
use Rattle.definitions.specs.File.{highest_moment}
use Rattle.laws.specs.ChainLaws.{distributions_max}
use Rattle.reader.proofs.ModelFile.block_size.Goals.{After-highest_moment}
use Rattle.reader.proofs.ModelFile.block_size.Goals as goal

-- at most 65 rows, of at most 8 cells each
module _ (c : After-highest_moment) where
  rows_max : c.state_count.result + c.distributions.result ≤ 65
  rows_max = omega (arith, c.state_count.ensures, c.distributions.ensures, c.self.invariant.states_max, distributions_max c.self.inside.head)

  moments_max : c.highest_moment.result ≤ 8
  moments_max =
      let is : c.self.inside.head ≡ c.args.self.now = c.self.view_is in
      let few : highest_moment c.self.inside.head ≤ 8 = rw is c.requires in
      omega (arith, c.highest_moment.ensures, few)

  -- and so the cells of these rows, or of fewer
  few : (rows : ℕ) → rows ≤ c.state_count.result + c.distributions.result → rows * c.highest_moment.result ≤ 65 * 8
  few rows h = mul-le-mul {n₂ = 65} {m₂ = 8} (omega (arith, h, rows_max)) moments_max

pub overflow_add-rows : goal.overflow_add-rows
overflow_add-rows c = omega (arith, c.self.invariant.states_max, distributions_max c.self.inside.head)

pub overflow_mul-result : goal.overflow_mul-result
overflow_mul-result c = omega (arith, few c)

pub returns-clause-most : goal.returns-clause-most
returns-clause-most c = few (goal.at.returns-clause-most c).After-highest_moment _ (omega arith)

-- this one makes the refusal of a wrong count say where it fails
pub returns-clause-value : goal.returns-clause-value
returns-clause-value c =
    let is : c.self.inside.head ≡ c.args.self.now = c.self.view_is in
    ap₂ ◌*◌ (ap₂ ◌+◌ (rw is at c.state_count.ensures) (rw is at c.distributions.ensures)) (rw is at c.highest_moment.ensures)
