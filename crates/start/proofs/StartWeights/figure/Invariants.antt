use Rattle.std.proofs.Common.{◌≡◌}
use Rattle.laws.specs.ArrayLaws.{entry_of}
use Rattle.start.specs.Figures.{moments_of, start_total}
use Rattle.start.proofs.StartWeights.figure.Given as goal

abbrev pub invariant-loop-i : goal.invariant-loop-i
invariant-loop-i l = l.total ≡ start_total l.self.weights.now l.i (moments_of l.self.highest l.r (entry_of l.block))
