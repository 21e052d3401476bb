use Rattle.std.proofs.Common.{◌≡◌, ◌+◌, ◌*◌, get_or}
use Rattle.definitions.specs.Sums.{blocks}
use Rattle.laws.specs.ArrayLaws.{entry_of}
use Rattle.start.specs.Figures.{start_cell}
use Rattle.start.proofs.StartWeights.put_in_blocks.Given as goal

abbrev pub invariant-loop-k : goal.invariant-loop-k
invariant-loop-k l = l.cells ≡ blocks ((l.self.states + 1) * l.self.highest) l.k (λ j. start_cell (entry_of l.self.weights.now) l.self.states l.self.highest (λ e. get_or l.initial.cells (j * ((l.self.states + 1) * l.self.highest) + e) 0)) l.initial.cells
