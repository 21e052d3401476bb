-- What is left is no longer than the input.
use Rattle.std.proofs.Common.{◌≤◌, length}
use Rattle.refusals_cases.proofs.times_of.Given as goal

abbrev pub invariant-loop-time : goal.invariant-loop-time
invariant-loop-time l = length l.rest ≤ length l.fn.input
