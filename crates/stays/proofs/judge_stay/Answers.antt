-- `stays::judge_stay` meets its contract: row 20, then row 21. Assumes nothing.
use Rattle.std.proofs.Common.{[], ◌∷◌, sym, ◌∙◌}
use Rattle.std.proofs.lemmas.Result.{err_from_is_err_and}
use Rattle.definitions.specs.Rules.{outside}
use Rattle.definitions.specs.Stays.{pair_rows}
use Rattle.stays.proofs.Rows.{stopped_before, stopped_there, passed_there}
use Rattle.stays.proofs.judge_stay.Goals as goal

pub returns-in_err-judge_pair : goal.returns-in_err-judge_pair
returns-in_err-judge_pair c =
    let p = err_from_is_err_and c.from_residual.result c.from_residual.ensures.1 in
    rw (p.1, p.2) (stopped_before (pair_rows c.args.states c.args.i c.args.j) ((21, outside 1 10000 c.args.hours) ∷ []) _ c.in_err-judge_pair.ensures)

pub returns-then-outside : goal.returns-then-outside
returns-then-outside c = stopped_there (pair_rows c.args.states c.args.i c.args.j) 21 (outside 1 10000 c.args.hours) c.in_ok-judge_pair.ensures (sym c.outside.ensures ∙ c.if-outside.true)

pub returns : goal.returns
returns c = passed_there (pair_rows c.args.states c.args.i c.args.j) 21 (outside 1 10000 c.args.hours) c.in_ok-judge_pair.ensures (sym c.outside.ensures ∙ c.if-outside.false)
