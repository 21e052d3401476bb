use Rattle.definitions.specs.Chain.{model_of}
use Rattle.vectors.specs.Arrows.{targets_of, rates_of}
use Rattle.arrows.specs.Rows.{DownTo}
use Rattle.arrows.proofs.list_row.Given as goal

abbrev pub invariant-loop-j : goal.invariant-loop-j
invariant-loop-j l = DownTo (model_of l.file) l.i l.first l.j l.k (targets_of l.initial.arrows) (rates_of l.initial.arrows) (targets_of l.arrows) (rates_of l.arrows)
