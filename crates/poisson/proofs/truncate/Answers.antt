-- `poisson::truncate` meets its contract. Assumes nothing.
-- The loop's invariant: n is from m to the level, the sum is S(n), and the array is filled up to n. The measure is what is left up to the level.
use Rattle.std.proofs.Common.{◌≡◌, ◌+◌, ◌≤◌, ◌<◌, ap, sym, ◌∙◌, arith}
use Rattle.definitions.specs.Sums.{over}
use Rattle.definitions.specs.Weights.{weight, weight_sum}
use Rattle.definitions.specs.Level.{level, passes?}
use Rattle.laws.specs.WeightLaws.{mode_low, weight_max, weight_sum_max, weight_sum_next}
use Rattle.laws.specs.LevelLaws.{LEVELS, level_mode}
use Rattle.laws.proofs.LevelLaws.{level_max}
use Rattle.laws.specs.ListLaws.{over_store}
use Rattle.poisson.proofs.Search.{weight_at, not_yet, this_one}
use Rattle.poisson.proofs.truncate.Goals as goal
use Rattle.poisson.proofs.truncate.Goals.{After-passes, Else-passes}

pub leftward-sum-requires : goal.leftward-sum-requires
leftward-sum-requires c = omega (arith, mode_low c.args.x)

pub loop-at-init : goal.loop-at-init
loop-at-init c =
    let x = c.args.x in
    let m = c.most_likely-at.ensures.1 in
    let left = c.leftward-sum.ensures in
    record {
      same_jumps = omega arith;
      from_mode = omega arith;
      to_level = omega (arith, level_mode x c.args.tolerance (omega arith) (omega arith));
      summed = left.0 ∙ ap (weight_sum x) (sym m);
      written = left.1 ∙ ap (λ k. over (k + 1) (weight x) c.args.weights.now) (sym m);
    }

pub passes-requires : goal.passes-requires
passes-requires c =
    let most = level_max c.args.x c.args.tolerance c.requires.0 c.requires.1 in
    let same = c.loop-at.invariant.same_jumps in
    (c.loop-at.invariant.summed ∙ ap (λ x. weight_sum x c.loop-at.at.n) (sym same), omega arith, omega arith)

-- the test is that of X and the tolerance
tested : (c : After-passes) → c.passes.result ≡ passes? c.args.x c.args.tolerance c.loop-at.at.n
tested c = c.passes.ensures ∙ ap (λ x. passes? x c.args.tolerance c.loop-at.at.n) c.loop-at.invariant.same_jumps

pub returns-then-passes : goal.returns-then-passes
returns-then-passes c =
    let loop = c.loop-at in
    let x = c.args.x in
    let found : loop.at.n ≡ level x c.args.tolerance = this_one x c.args.tolerance loop.at.n (omega arith) (omega arith) loop.invariant.to_level (sym (tested c.before) ∙ c.if-passes.true) in
    record {
      is_level = omega arith;
      is_sum = loop.invariant.summed ∙ ap (weight_sum x) found;
      weights = loop.invariant.written ∙ ap (λ k. over (k + 1) (weight x) c.args.weights.now) found;
    }

-- where the test fails the level is still ahead
ahead : (c : Else-passes) → c.loop-at.at.n + 1 ≤ level c.args.x c.args.tolerance
ahead c = not_yet c.args.x c.args.tolerance c.loop-at.at.n (omega arith) (omega arith) c.loop-at.invariant.to_level (sym (tested c.before) ∙ c.if-passes.false)

-- and its index is one of the array's
inside : (c : Else-passes) → c.loop-at.at.n + 1 < LEVELS
inside c = omega (arith, ahead c, level_max c.args.x c.args.tolerance c.requires.0 c.requires.1)

pub step_right-next-requires : goal.step_right-next-requires
step_right-next-requires c = (rw c.loop-at.invariant.same_jumps c.loop-at.invariant.from_mode, inside c)

pub offset_bounds-weights-next : goal.offset_bounds-weights-next
offset_bounds-weights-next c = omega (arith, inside (goal.at.offset_bounds-weights-next c).Else-passes)

pub bounds-weights-next : goal.bounds-weights-next
bounds-weights-next c = omega (arith, inside (goal.at.bounds-weights-next c).Else-passes)

pub overflow_add-sum : goal.overflow_add-sum
overflow_add-sum c =
    let next = c.step_right-next.result in
    omega (arith, weight_max next.x next.n, weight_sum_max c.args.x c.loop-at.at.n, inside (goal.at.overflow_add-sum c).Else-passes)

pub loop-at-smaller : goal.loop-at-smaller
loop-at-smaller c = omega (arith, ahead (goal.at.loop-at-smaller c).Else-passes)

pub loop-at-preserved : goal.loop-at-preserved
loop-at-preserved c =
    let x = c.args.x in
    let loop = c.loop-at in
    let next = c.step_right-next.result in
    let here : next.n ≡ loop.at.n + 1 = omega arith in
    let w = weight_at next x (loop.at.n + 1) (omega arith) here in
    let most = inside (goal.at.loop-at-preserved c).Else-passes in
    record {
      same_jumps = omega arith;
      from_mode = omega arith;
      to_level = omega (arith, ahead (goal.at.loop-at-preserved c).Else-passes);
      summed = rw here (omega (arith, weight_sum_next x loop.at.n));
      written = rw here (over_store (loop.at.n + 1) (weight x) c.args.weights.now loop.weights next.w (omega arith) loop.invariant.written w);
    }
