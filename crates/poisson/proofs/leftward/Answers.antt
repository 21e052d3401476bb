-- `poisson::leftward` meets its contract. Assumes nothing.
-- The loop's invariant: with the weights below n added the sum is S(m), and with them written the array is as it was lent with those up to m written.
use Rattle.std.proofs.Common.{◌≡◌, ◌+◌, ◌-◌, ◌≤◌, ℕ, sym, ap, ◌∙◌, length-set, arith}
use Rattle.definitions.specs.Sums.{sum as sum_of, over}
use Rattle.definitions.specs.Weights.{mode, weight, weight_sum}
use Rattle.laws.specs.SumLaws.{sum_zero, sum_more}
use Rattle.laws.specs.WeightLaws.{mode_low, weight_mode, weight_sum_max, weight_sum_mode}
use Rattle.laws.specs.ListLaws.{over_none, store_over}
use Rattle.poisson.proofs.Search.{weight_at}
use Rattle.poisson.proofs.leftward.Goals as goal

pub loop-n-init : goal.loop-n-init
loop-n-init c =
    let x = c.args.x in
    let start = c.most_likely-at in
    let at = start.result in
    let m = start.ensures.1 in
    let w = weight_at at x at.n start.ensures.0 (omega arith) in
    record {
      same_jumps = omega arith;
      place = omega arith;
      summed = omega (arith, w, ap (weight x) m, ap (λ k. sum_of k (weight x)) m, weight_sum_mode x, weight_mode x);
      written = store_over 0 at.n (weight x) c.args.weights.now at.w (omega arith) w ∙ ap (λ k. over (k + 1) (weight x) c.args.weights.now) m;
    }

-- one weight more in the sum
more : (x n sum w : ℕ) → sum + sum_of n (weight x) ≡ weight_sum x (mode x) → 1 ≤ n → w ≡ weight x (n - 1) → sum + w + sum_of (n - 1) (weight x) ≡ weight_sum x (mode x)
more x n sum w summed pos is =
    let back : n - 1 + 1 ≡ n = omega arith in
    omega (arith, rw back at (sum_more (n - 1) (weight x)))

pub overflow_add-sum : goal.overflow_add-sum
overflow_add-sum c =
    let x = c.args.x in
    let loop = c.loop-n in
    let at = c.step_left-at.result in
    let w = weight_at at x (loop.n - 1) (omega arith) (omega arith) in
    omega (arith, more x loop.n loop.sum at.w loop.invariant.summed (omega arith) w, weight_sum_max x (mode x), mode_low x)

pub loop-n-preserved : goal.loop-n-preserved
loop-n-preserved c =
    let x = c.args.x in
    let loop = c.loop-n in
    let n = loop.n in
    let at = c.step_left-at.result in
    let w = weight_at at x (n - 1) (omega arith) (omega arith) in
    let back : n - 1 + 1 ≡ n = omega arith in
    record {
      same_jumps = omega arith;
      place = omega arith;
      summed = more x n loop.sum at.w loop.invariant.summed (omega arith) w;
      written = rw back at (store_over 0 (n - 1) (weight x) loop.weights at.w (omega (arith, length-set {A = ℕ})) w) ∙ loop.invariant.written;
    }

pub returns : goal.returns
returns c =
    let x = c.args.x in
    let loop = c.loop-n in
    let end : loop.n ≡ 0 = omega arith in (
      omega (arith, rw end at loop.invariant.summed, sum_zero (weight x)),
      sym (over_none (weight x) loop.weights) ∙ rw end at loop.invariant.written,
    )
