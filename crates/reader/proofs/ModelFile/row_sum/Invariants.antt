use Rattle.std.specs.Prelude.{◌*◌, ◌≤◌, ◌≡◌}
use Rattle.definitions.specs.Sums.{sum}
use Rattle.definitions.specs.Chain.{model_of, jump_rate}
use Rattle.reader.proofs.ModelFile.row_sum.Given as goal

abbrev pub invariant-loop-j : goal.invariant-loop-j
invariant-loop-j l = (l.total ≡ sum l.j (jump_rate (model_of l.self) l.i)) × (l.total ≤ 4294967296 * l.j)
