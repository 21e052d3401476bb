-- `stays::judge_pair` meets its contract: row 20. Assumes nothing.
use Rattle.std.proofs.Common.{sym, ◌∙◌}
use Rattle.laws.specs.RuleLaws.{row_stops, row_passes, none_left}
use Rattle.stays.proofs.judge_pair.Goals as goal

pub returns-then-no_pair : goal.returns-then-no_pair
returns-then-no_pair c = sym (row_stops 20 _ _ _ (sym c.no_pair.ensures ∙ c.if-no_pair.true))

pub returns : goal.returns
returns c = sym (row_passes 20 _ _ _ (sym c.no_pair.ensures ∙ c.if-no_pair.false) ∙ none_left tt)
