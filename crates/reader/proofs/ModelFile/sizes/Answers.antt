-- `search` would prove it with no file; this one makes the refusal of a wrong size say where it fails.
use Rattle.std.specs.Prelude.{◌≡◌}
use Rattle.reader.specs.SizesRead.{sizes_read}
use Rattle.reader.proofs.ModelFile.sizes.Goals as goal

pub returns : goal.returns
returns c =
    let is : c.self.inside.head ≡ c.args.self.now = c.self.view_is in
    sizes_read _ (rw is at c.state_count.ensures) (rw is at c.highest_moment.ensures) c.block_size.ensures.value c.uniform_rate.ensures c.max_reward.ensures
