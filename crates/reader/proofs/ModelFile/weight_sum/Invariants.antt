use Rattle.std.specs.Prelude.{◌*◌, ◌≤◌, ◌≡◌}
use Rattle.definitions.specs.Sums.{sum}
use Rattle.definitions.specs.File.{weight_field}
use Rattle.reader.proofs.ModelFile.weight_sum.Given as goal

abbrev pub invariant-loop-i : goal.invariant-loop-i
invariant-loop-i l = (l.total ≡ sum l.i (weight_field l.bytes)) × (l.total ≤ 4294967296 * l.i)
