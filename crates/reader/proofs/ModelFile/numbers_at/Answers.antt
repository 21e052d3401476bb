-- `reader::ModelFile::numbers_at` meets its contract. Assumes nothing.
use Rattle.std.specs.Prelude.{◌+◌, ◌*◌, ◌≡◌}
use Rattle.std.proofs.Common.{rules}
use Rattle.definitions.specs.Bytes.{big}
use Rattle.reader.proofs.ModelFile.numbers_at.Goals as goal

pub returns : goal.returns
returns c =
    let file = c.args.self.now in
    let is : c.self.inside.head ≡ file = c.self.view_is in
    rw (c.state_count.ensures, is) at (c.for_states.ensures (λ i. big 4 file (c.args.at + 4 * i)) (λ i x l h. search rules))
