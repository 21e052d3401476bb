-- `refusals::judge_dimensions` meets its contract: row 4, then row 5. Assumes nothing.
use Rattle.std.specs.Prelude.{◌≡◌, ◌∷◌, [], Err}
use Rattle.std.proofs.Common.{◌∙◌, sym, ap, rules}
use Rattle.definitions.specs.Rules.{outside, state_row, answer_of}
use Rattle.laws.specs.RuleLaws.{row_stops, row_passes, none_left}
use Rattle.refusals.proofs.Parts.{first_refuses, second_answers}
use Rattle.refusals.proofs.judge_dimensions.Goals as goal

pub returns-then-outside : goal.returns-then-outside
returns-then-outside c =
    let args = c.args in
    sym (row_stops 5 (outside 1 8 args.highest) [] tt (sym c.if-outside.ensures)) ∙ second_answers (state_row args.states) ((5, outside 1 8 args.highest) ∷ []) tt tt tt c.in_ok-judge_states.ensures

pub returns : goal.returns
returns c =
    let args = c.args in
    sym (row_passes 5 (outside 1 8 args.highest) [] tt (sym c.if-outside.ensures) ∙ none_left tt)
    ∙ second_answers (state_row args.states) ((5, outside 1 8 args.highest) ∷ []) tt tt tt c.in_ok-judge_states.ensures

pub returns-in_err-judge_states : goal.returns-in_err-judge_states
returns-in_err-judge_states c =
    let args = c.args in
    let gave : c.from_residual.result ≡ Err c.in_err-judge_states.field-0.0 = search rules in
    ap answer_of gave ∙ first_refuses (state_row args.states) ((5, outside 1 8 args.highest) ∷ []) tt tt _ c.in_err-judge_states.ensures
