-- `reader::ModelFile::max_reward` meets its contract. Assumes nothing.
use Rattle.std.specs.Prelude.{◌≡◌, length}
use Rattle.std.proofs.Common.{◌∙◌, arith, rules}
use Rattle.definitions.specs.File.{state_count}
use Rattle.definitions.specs.Chain.{model_of}
use Rattle.reader.specs.SizesRead.{reward_of_rewards}
use Rattle.reader.proofs.Arrays.{largest_taken}
use Rattle.reader.proofs.ModelFile.max_reward.Goals as goal

pub returns : goal.returns
returns c =
    let file = c.args.self.now in
    let is : c.self.inside.head ≡ file = c.self.view_is in
    let few = rw is at c.self.invariant.states_max in
    let long : length c.rewards.result ≡ 64 = search rules in
    let states : c.state_count.result ≡ state_count file = rw is at c.state_count.ensures in
    c.largest.ensures
    ∙ largest_taken c.state_count.result c.rewards.result (omega (arith, few, states, long))
    ∙ rw states (reward_of_rewards (model_of file) c.rewards.result few c.rewards.ensures)
