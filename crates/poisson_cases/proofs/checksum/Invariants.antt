-- The running number stays below the prime.
use Rattle.std.proofs.Common.{◌<◌}
use Rattle.poisson_cases.proofs.checksum.Given as goal

abbrev pub invariant-loop-x : goal.invariant-loop-x
invariant-loop-x l = l.c < 1000000007
