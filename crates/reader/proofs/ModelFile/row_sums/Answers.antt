-- `reader::ModelFile::row_sums` meets its contract. Assumes nothing.
use Rattle.std.specs.Prelude.{◌≡◌}
use Rattle.std.proofs.Common.{arith}
use Rattle.definitions.specs.Chain.{model_of, row_sum}
use Rattle.reader.proofs.ModelFile.row_sums.Goals as goal

pub returns : goal.returns
returns c =
    let file = c.args.self.now in
    let is : c.self.inside.head ≡ file = c.self.view_is in
    rw (c.state_count.ensures, is) at (c.for_states.ensures (row_sum (model_of file)) (λ i x l h. omega arith))
