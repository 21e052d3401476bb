-- `reader::ModelFile::row_at` meets its contract: the row starts inside the file. Assumes nothing.
use Rattle.std.specs.Prelude.{ℕ, ◌+◌, ◌*◌, ◌-◌, ◌≤◌, ◌≡◌}
use Rattle.std.proofs.Common.{ap₂, arith}
use Rattle.definitions.specs.File.{row_at}
use Rattle.laws.specs.Acceptance.{Framed, length_max}
use Rattle.reader.specs.Framed.{row_room}
use Rattle.reader.proofs.ModelFile.row_at.Goals.{After-rewards_at}
use Rattle.reader.proofs.ModelFile.row_at.Goals as goal

module _ (c : After-rewards_at) where
  is : c.self.inside.head ≡ c.args.self.now
  is = c.self.view_is

  value : c.rewards_at.result + 4 * c.state_count-states.result + 4 * (c.state_count-states.result - 1) * c.args.i ≡ row_at c.args.self.now c.args.i
  value =
      let i = c.args.i in
      ap₂ (λ (a M : ℕ). a + 4 * M + 4 * (M - 1) * i) c.rewards_at.ensures.value (rw is at c.state_count-states.ensures)

  inside : c.rewards_at.result + 4 * c.state_count-states.result + 4 * (c.state_count-states.result - 1) * c.args.i ≤ 16653
  inside =
      let framed : Framed c.args.self.now = rw is at c.self.invariant in
      omega (arith, value, row_room c.args.self.now c.args.i framed c.requires, length_max c.args.self.now framed)

pub returns : goal.returns
returns c = value c

pub overflow_mul-result : goal.overflow_mul-result
overflow_mul-result c = omega (arith, inside c)

pub overflow_add-result : goal.overflow_add-result
overflow_add-result c = omega (arith, inside c)

pub overflow_mul-result-2 : goal.overflow_mul-result-2
overflow_mul-result-2 c = omega (arith, inside c)

pub overflow_mul-result-3 : goal.overflow_mul-result-3
overflow_mul-result-3 c = omega (arith, inside c)

pub overflow_add-result-2 : goal.overflow_add-result-2
overflow_add-result-2 c = omega (arith, inside c)
