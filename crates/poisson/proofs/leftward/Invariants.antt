use Rattle.std.proofs.Common.{◌≡◌, ◌+◌}
use Rattle.definitions.specs.Sums.{sum as sum_of, over}
use Rattle.definitions.specs.Weights.{mode, weight, weight_sum}
use Rattle.poisson.proofs.leftward.Given as goal

abbrev pub invariant-loop-n : goal.invariant-loop-n
invariant-loop-n l = record {
  same_jumps : l.at.x ≡ l.x;
  place : l.at.n ≡ l.n;
  summed : l.sum + sum_of l.n (weight l.x) ≡ weight_sum l.x (mode l.x);
  written : over l.n (weight l.x) l.weights ≡ over (mode l.x + 1) (weight l.x) l.fn.weights;
}
