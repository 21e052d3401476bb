-- `reader::ModelFile::rewards` meets its contract: the M rewards lie in the file. Assumes nothing.
use Rattle.std.specs.Prelude.{◌≡◌}
use Rattle.std.proofs.Common.{arith}
use Rattle.laws.specs.Acceptance.{Framed}
use Rattle.reader.specs.Framed.{rewards_room}
use Rattle.reader.proofs.ModelFile.rewards.Goals as goal

pub numbers_at-requires : goal.numbers_at-requires
numbers_at-requires c =
    let is : c.self.inside.head ≡ c.args.self.now = c.self.view_is in
    let framed : Framed c.args.self.now = rw is at c.self.invariant in
    omega (arith, c.rewards_at.ensures.value, rewards_room c.args.self.now framed)
