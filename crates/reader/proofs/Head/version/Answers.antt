-- `search` would prove it with no file; this one makes the refusal of a wrong byte say where it fails.
use Rattle.std.specs.Prelude.{◌≡◌}
use Rattle.reader.proofs.Head.version.Goals as goal

pub returns : goal.returns
returns c =
    let is : c.self.inside.bytes.now ≡ c.args.self.now = c.self.view_is in
    rw is at c.from.ensures
