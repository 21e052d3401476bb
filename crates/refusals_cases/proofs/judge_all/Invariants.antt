-- Each case leaves less of the input.
use Rattle.std.proofs.Common.{length}
use Rattle.refusals_cases.proofs.judge_all.Given as goal

abbrev pub decreases-loop-case : goal.decreases-loop-case
decreases-loop-case l = length l.rest
