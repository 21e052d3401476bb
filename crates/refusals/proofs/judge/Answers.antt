-- `refusals::judge` meets its contract: rows 1 to 12 and 16, then the room. Assumes nothing.
use Rattle.std.specs.Prelude.{◌≡◌, refl, Err}
use Rattle.std.proofs.Common.{◌∙◌, sym, arith, rules}
use Rattle.definitions.specs.Rules.{block_size}
use Rattle.laws.specs.RowLaws.{same_room}
use Rattle.laws.specs.Acceptance.{accepted_model, judgement_in_parts}
use Rattle.refusals.proofs.judge.Goals as goal

pub returns-in_err-file-clause-judged : goal.returns-in_err-file-clause-judged
returns-in_err-file-clause-judged c =
    let args = c.args in
    let gave : c.from_residual.result ≡ Err c.in_err-file.field-0.0 = search rules in
    let judged : c.judge_file.result ≡ Err c.in_err-file.field-0.0 = c.in_err-file.was in
    rw gave (sym (judgement_in_parts args.bytes.now args.cells ∙ rw (sym (rw judged at c.judge_file.ensures.judged)) refl))

pub judge_room-requires : goal.judge_room-requires
judge_room-requires c =
    let s = c.args.bytes.now in
    let is : c.in_ok-file.file ≡ s = c.in_ok-file.ensures.same in
    let model = accepted_model 1 2 s (sym c.in_ok-file.ensures.judged) in
    rw is (model.limits.highest_max, omega arith)

pub returns-in_err-judge_room-clause-judged : goal.returns-in_err-judge_room-clause-judged
returns-in_err-judge_room-clause-judged c =
    let args = c.args in
    let s = args.bytes.now in
    let is : c.in_ok-file.file ≡ s = c.in_ok-file.ensures.same in
    let gave : c.from_residual-in_err-judge_room.result ≡ Err c.in_err-judge_room.field-0.0 = search rules in
    rw gave (rw is at c.in_err-judge_room.ensures ∙ same_room (block_size s) args.cells (omega arith) (omega arith) ∙ sym (judgement_in_parts s args.cells ∙ rw (sym c.in_ok-file.ensures.judged) refl))

pub returns-clause-judged : goal.returns-clause-judged
returns-clause-judged c =
    let args = c.args in
    let s = args.bytes.now in
    let is : c.in_ok-file.file ≡ s = c.in_ok-file.ensures.same in
    rw is at c.in_ok-judge_room.ensures ∙ same_room (block_size s) args.cells (omega arith) (omega arith) ∙ sym (judgement_in_parts s args.cells ∙ rw (sym c.in_ok-file.ensures.judged) refl)
