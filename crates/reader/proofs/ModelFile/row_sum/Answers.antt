-- `reader::ModelFile::row_sum` meets its contract: after j turns the total is the sum of the row's first j entries. Assumes nothing.
use Rattle.std.specs.Prelude.{◌+◌, ◌<◌, ◌≡◌}
use Rattle.std.proofs.Common.{sym, ◌∙◌, ap₂, arith}
use Rattle.definitions.specs.File.{state_count}
use Rattle.definitions.specs.Chain.{model_of, jump_rate, row_sum}
use Rattle.laws.specs.Acceptance.{Framed}
use Rattle.laws.specs.SumLaws.{sum_zero, sum_more}
use Rattle.reader.specs.Framed.{entry_room, entry_in_row}
use Rattle.reader.proofs.ModelFile.row_sum.Goals as goal

pub loop-j-init : goal.loop-j-init
loop-j-init c = (sym (sum_zero _), omega arith)

pub entry_in-total-requires : goal.entry_in-total-requires
entry_in-total-requires c other =
    let file = c.args.self.now in
    let is : c.self.inside.head ≡ file = c.self.view_is in
    let framed : Framed file = rw is at c.self.invariant in
    let state : c.loop-j.j < state_count file = rw (c.state_count-j-end.ensures, is) at c.loop-j-test.true in
    rw c.row-row.ensures (entry_room file c.args.i c.loop-j.j framed c.requires state other)

pub loop-j-preserved : goal.loop-j-preserved
loop-j-preserved c =
    let now = c.loop-j in
    let file = c.args.self.now in
    let entry : c.entry_in-total.result ≡ jump_rate (model_of file) c.args.i now.j =
    unfold jump_rate in rw (c.row-row.ensures, entry_in_row file c.args.i now.j 0) at c.entry_in-total.ensures.0 in
    (ap₂ ◌+◌ now.invariant.0 entry ∙ sym (sum_more now.j (jump_rate (model_of file) c.args.i)), omega (arith, c.entry_in-total.ensures.1 (omega arith)))

pub returns : goal.returns
unfolding row_sum
returns c =
    let file = c.args.self.now in
    let is : c.self.inside.head ≡ file = c.self.view_is in
    let states : c.state_count-j-end.result ≡ state_count file = rw is at c.state_count-j-end.ensures in
    let all : c.loop-j.j ≡ state_count file = omega (arith, states) in
    rw all at c.loop-j.invariant.0
