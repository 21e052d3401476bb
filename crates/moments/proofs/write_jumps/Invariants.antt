use Rattle.std.proofs.Common.{◌≡◌, ◌*◌, get_or}
use Rattle.definitions.specs.Sums.{over}
use Rattle.moments.proofs.write_jumps.Given as goal

abbrev pub invariant-loop-k : goal.invariant-loop-k
invariant-loop-k l = l.xs ≡ over l.k (λ j. l.rate * get_or l.times j 0) l.initial.xs
