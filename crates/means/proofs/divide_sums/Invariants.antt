use Rattle.std.proofs.Common.{◌≡◌, get_or}
use Rattle.definitions.specs.Sums.{over}
use Rattle.definitions.specs.Moment.{last_quotient}
use Rattle.means.proofs.divide_sums.Given as goal

abbrev pub invariant-loop-sum : goal.invariant-loop-sum
invariant-loop-sum l = l.sum-items ≡ over l.sum-index (λ j. last_quotient (get_or l.initial.sum-items j 0) l.total) l.initial.sum-items
