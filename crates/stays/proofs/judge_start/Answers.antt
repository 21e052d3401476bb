-- `stays::judge_start` meets its contract: row 4, then row 22. Assumes nothing.
use Rattle.std.proofs.Common.{[], ◌∷◌, sym, ◌∙◌, arith}
use Rattle.std.proofs.lemmas.Result.{err_from_is_err_and}
use Rattle.definitions.specs.Rules.{outside, state_row}
use Rattle.stays.proofs.Rows.{stopped_before, stopped_there, passed_there}
use Rattle.stays.proofs.judge_start.Goals as goal

pub returns-in_err-judge_states : goal.returns-in_err-judge_states
returns-in_err-judge_states c =
    let p = err_from_is_err_and c.from_residual.result c.from_residual.ensures.1 in
    rw (p.1, p.2) (stopped_before (state_row c.args.states) ((22, outside 1 256 c.args.window) ∷ []) _ c.in_err-judge_states.ensures)

pub returns-then-outside : goal.returns-then-outside
returns-then-outside c = stopped_there (state_row c.args.states) 22 (outside 1 256 c.args.window) c.in_ok-judge_states.ensures (grind (arith, c.outside.ensures, c.if-outside.true))

pub returns : goal.returns
returns c = passed_there (state_row c.args.states) 22 (outside 1 256 c.args.window) c.in_ok-judge_states.ensures (sym c.outside.ensures ∙ c.if-outside.false)
