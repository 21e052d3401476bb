-- Each X in turn: its row of weights, its level and its S(N), and the largest level so far.
use Rattle.std.proofs.Common.{sym, ap, ℕ, ◌+◌, ◌-◌, ◌*◌, ◌≤◌, ◌<◌, refl, get_or, length, take, drop, add-one, arith}
use Rattle.definitions.specs.Sums.{largest as largest_of}
use Rattle.definitions.specs.Weights.{weight}
use Rattle.laws.specs.BlockLaws.{block_end, block_whole}
use Rattle.laws.specs.LevelLaws.{LEVELS}
use Rattle.laws.specs.ListLaws.{over_none, over_store}
use Rattle.laws.specs.StoredLaws.{none_stored, row_back}
use Rattle.laws.specs.SumLaws.{largest_zero, largest_suc}
use Rattle.means.specs.SolvingLaws.{short}
use Rattle.means.specs.Solving.{level_of, total_of, weight_row}
use Rattle.means.proofs.truncate_each.Goals as goal
use Rattle.means.proofs.truncate_each.Goals.{In-loop-k}

pub loop-k-init : goal.loop-k-init
loop-k-init c = record {
  is_largest = sym (largest_zero _);
  are_levels = sym (over_none _ _);
  are_totals = sym (over_none _ _);
  are_weights = none_stored _ _ _;
}

-- a turn of the loop
module _ (c : In-loop-k) where
  abbrev k : ℕ
  k = c.loop-k.k

  -- row k lies in the weights
  row_room : k * LEVELS + LEVELS ≤ length c.loop-k.weights
  row_room = omega (arith, block_end k (length c.args.xs.now) LEVELS c.loop-k-test.true, c.requires.3)

  -- what is lent of them
  abbrev entries : ℕ
  entries = length c.loop-k.weights - k * LEVELS

  whole : LEVELS ≤ length (take entries (drop (k * LEVELS) c.loop-k.weights))
  whole = block_whole LEVELS k c.loop-k.weights row_room

pub loop-k-preserved : goal.loop-k-preserved
loop-k-preserved c =
    let turn = (goal.at.loop-k-preserved c).In-loop-k in
    let inv = c.loop-k.invariant in
    let cut = c.truncate-cut.ensures in
    let xs = c.args.xs.now in
    let ε = c.args.tolerance in
    let held : level_of xs ε (k turn) < LEVELS = short xs ε c.requires.0 (k turn) c.loop-k-test.true in
    record {
      is_largest = omega (arith, c.max-largest.ensures, largest_suc (k turn) (level_of xs ε), ap (λ (n : ℕ). largest_of n (level_of xs ε)) (add-one (k turn)), cut.is_level, inv.is_largest);
      are_levels = over_store (k turn) (level_of xs ε) _ _ _ (omega (arith, c.requires.1)) inv.are_levels cut.is_level;
      are_totals = over_store (k turn) (total_of xs ε) _ _ _ (omega (arith, c.requires.2)) inv.are_totals (omega (arith, cut.is_sum));
      are_weights = row_back (weight_row xs ε) LEVELS (k turn) (entries turn) (level_of xs ε (k turn) + 1) (weight (get_or xs (k turn) 0)) _ c.loop-k.weights _ inv.are_weights refl (omega (arith, row_room turn, held)) (omega (arith, whole turn, held)) cut.weights;
    }
