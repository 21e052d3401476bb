use Rattle.std.proofs.Common.{◌≡◌, ◌+◌, ◌*◌, get_or}
use Rattle.definitions.specs.Sums.{blocks}
use Rattle.definitions.specs.Moment.{last_quotient}
use Rattle.means.proofs.divide_blocks.Given as goal

abbrev pub invariant-loop-k : goal.invariant-loop-k
invariant-loop-k l = l.cells ≡ blocks l.block l.k (λ j e. last_quotient (get_or l.initial.cells (j * l.block + e) 0) (get_or l.totals j 0)) l.initial.cells
