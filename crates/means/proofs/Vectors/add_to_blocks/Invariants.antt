use Rattle.std.proofs.Common.{◌≡◌, ◌+◌, ◌*◌, get_or}
use Rattle.definitions.specs.Sums.{blocks}
use Rattle.means.specs.Running.{in_table, row_from, term_at, of_states}
use Rattle.means.proofs.Vectors.add_to_blocks.Given as goal

abbrev pub invariant-loop-k : goal.invariant-loop-k
invariant-loop-k l = l.cells ≡ blocks l.self.sizes.block l.k (λ j e. get_or l.initial.cells (j * l.self.sizes.block + e) 0 + of_states (l.self.sizes.states * l.self.sizes.highest) e (term_at (row_from l.weights j) l.self.n (get_or l.levels j 0) (in_table l.self.table.now l.self.sizes.highest e))) l.initial.cells
