use Rattle.std.proofs.Common.{◌≡◌, ◌+◌}
use Rattle.definitions.specs.Sums.{over}
use Rattle.laws.specs.ArrayLaws.{entry_of}
use Rattle.start.specs.Figures.{start_cell}
use Rattle.start.proofs.StartWeights.put_figures.Given as goal

abbrev pub invariant-loop-r : goal.invariant-loop-r
invariant-loop-r l = l.block ≡ over (l.moments + l.r) (start_cell (entry_of l.self.weights.now) l.self.states l.self.highest (entry_of l.initial.block)) l.initial.block
