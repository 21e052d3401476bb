-- `refusals::judge_jumps` meets its contract: row 12. Assumes nothing.
use Rattle.std.specs.Prelude.{◌*◌}
use Rattle.std.proofs.Common.{◌∙◌, sym, arith, lt-ltb, le-ltb}
use Rattle.definitions.specs.Rules.{jumps}
use Rattle.laws.specs.RuleLaws.{row_stops, row_passes, none_left}
use Rattle.refusals.proofs.judge_jumps.Goals as goal

pub returns-then-jump_millionths-gt-MOST_JUMPS : goal.returns-then-jump_millionths-gt-MOST_JUMPS
unfolding jumps
returns-then-jump_millionths-gt-MOST_JUMPS c = let args = c.args in sym (row_stops 12 _ _ _ (lt-ltb 256000000 (args.rate * args.time) (omega (arith, c.jump_millionths.ensures, c.if-jump_millionths-gt-MOST_JUMPS.true))))

pub returns : goal.returns
unfolding jumps
returns c = let args = c.args in sym (row_passes 12 _ _ _ (le-ltb 256000000 (args.rate * args.time) (omega (arith, c.jump_millionths.ensures, c.if-jump_millionths-gt-MOST_JUMPS.false))) ∙ none_left tt)
