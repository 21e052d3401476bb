use Rattle.std.proofs.Common.{◌≡◌, ◌+◌, ◌-◌, ◌≤◌}
use Rattle.definitions.specs.Sums.{over}
use Rattle.definitions.specs.Weights.{mode, weight, weight_sum}
use Rattle.definitions.specs.Level.{level}
use Rattle.poisson.proofs.truncate.Given as goal

abbrev pub invariant-loop-at : goal.invariant-loop-at
invariant-loop-at l = record {
  same_jumps : l.at.x ≡ l.x;
  from_mode : mode l.x ≤ l.at.n;
  to_level : l.at.n ≤ level l.x l.tolerance;
  summed : l.sum ≡ weight_sum l.x l.at.n;
  written : l.weights ≡ over (l.at.n + 1) (weight l.x) l.fn.weights;
}

abbrev pub decreases-loop-at : goal.decreases-loop-at
decreases-loop-at l = level l.x l.tolerance - l.at.n
