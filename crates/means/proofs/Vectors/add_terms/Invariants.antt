use Rattle.std.proofs.Common.{◌≡◌, ◌+◌, ◌*◌, [], get_or}
use Rattle.definitions.specs.Sums.{blocks}
use Rattle.definitions.specs.Moment.{term}
use Rattle.means.proofs.Vectors.add_terms.Given as goal

abbrev pub invariant-loop-i : goal.invariant-loop-i
invariant-loop-i l = l.cells ≡ blocks l.self.sizes.highest l.i (λ i r. get_or l.initial.cells (i * l.self.sizes.highest + r) 0 + term l.w (get_or (get_or l.self.table.now (r + 1) []) i 0)) l.initial.cells
