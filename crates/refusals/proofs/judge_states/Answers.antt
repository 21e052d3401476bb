-- `refusals::judge_states` meets its contract: row 4. Assumes nothing.
use Rattle.std.proofs.Common.{◌∙◌, sym}
use Rattle.definitions.specs.Rules.{outside}
use Rattle.laws.specs.RuleLaws.{row_stops, row_passes, none_left}
use Rattle.refusals.proofs.judge_states.Goals as goal

pub returns : goal.returns
returns c = sym (row_passes 4 (outside 1 64 c.args.states) _ _ (sym c.if-outside.ensures) ∙ none_left tt)

pub returns-then-outside : goal.returns-then-outside
returns-then-outside c = sym (row_stops 4 (outside 1 64 c.args.states) _ _ (sym c.if-outside.ensures))
