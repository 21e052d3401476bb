use Rattle.std.proofs.Common.{◌≡◌, ◌+◌, [], get_or}
use Rattle.definitions.specs.Sums.{over}
use Rattle.definitions.specs.Moment.{term}
use Rattle.means.proofs.Vectors.add_terms_at.Given as goal

abbrev pub invariant-loop-r : goal.invariant-loop-r
invariant-loop-r l = l.cells ≡ over l.r (λ k. get_or l.initial.cells k 0 + term l.w (get_or (get_or l.self.table.now (k + 1) []) l.i 0)) l.initial.cells
