-- `reader::ModelFile::weight_sum` meets its contract: after i turns the total is the sum of the first i weights. Assumes nothing.
use Rattle.std.specs.Prelude.{◌+◌}
use Rattle.std.proofs.Common.{sym, ◌∙◌, ap₂, arith}
use Rattle.definitions.specs.File.{weight_field}
use Rattle.laws.specs.SumLaws.{sum_zero, sum_more}
use Rattle.reader.proofs.ModelFile.weight_sum.Goals as goal

pub loop-i-init : goal.loop-i-init
loop-i-init c = (sym (sum_zero _), omega arith)

pub loop-i-preserved : goal.loop-i-preserved
loop-i-preserved c =
    let turn = c.loop-i in
    (ap₂ ◌+◌ turn.invariant.0 c.be-total.ensures.0 ∙ sym (sum_more turn.i (weight_field c.bytes-bytes.result.now)), omega (arith, c.be-total.ensures.1))
