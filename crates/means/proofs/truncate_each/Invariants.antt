use Rattle.std.proofs.Common.{◌≡◌}
use Rattle.definitions.specs.Sums.{largest as largest_of, over, rows_stored}
use Rattle.laws.specs.LevelLaws.{LEVELS}
use Rattle.means.specs.Solving.{level_of, total_of, weight_row}
use Rattle.means.proofs.truncate_each.Given as goal

abbrev pub invariant-loop-k : goal.invariant-loop-k
invariant-loop-k l = record {
  is_largest : l.largest ≡ largest_of l.k (level_of l.xs l.tolerance);
  are_levels : l.levels ≡ over l.k (level_of l.xs l.tolerance) l.initial.levels;
  are_totals : l.totals ≡ over l.k (total_of l.xs l.tolerance) l.initial.totals;
  are_weights : l.weights ≡ rows_stored (weight_row l.xs l.tolerance) LEVELS l.k l.initial.weights;
}
