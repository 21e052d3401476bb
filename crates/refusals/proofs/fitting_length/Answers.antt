-- `refusals::fitting_length` meets its contract. Assumes nothing.
use Rattle.std.specs.Prelude.{ℕ, ◌+◌, ◌*◌, ◌≤◌}
use Rattle.std.proofs.Common.{ap₂, arith, mul-le-mul_right}
use Rattle.laws.specs.ChainLaws.{distributions_max, square_max}
use Rattle.refusals.proofs.fitting_length.Goals.{After-distributions}
use Rattle.refusals.proofs.fitting_length.Goals as goal

-- at most 64 states and 64 weights
module _ (c : After-distributions) where
  abbrev states : ℕ
  states = c.state_count-states.result

  few : states ≤ 64
  few = omega (arith, c.state_count-states.ensures)

  square : states * states ≤ 64 * 64
  square = square_max states 64 few

  weights : c.distributions.result * states ≤ 64
  weights =
      let once : c.distributions.result * states ≤ 1 * states = mul-le-mul_right states (omega (arith, c.distributions.ensures, distributions_max c.args.head.now)) in
      omega (arith, once, few)

pub returns : goal.returns
returns c = ap₂ (λ (M d : ℕ). 4 * M * M + 4 * (d * M) + 11) c.state_count-states.ensures c.distributions.ensures

pub overflow_mul-weights : goal.overflow_mul-weights
overflow_mul-weights c = omega (arith, weights c)

pub overflow_mul-result : goal.overflow_mul-result
overflow_mul-result c = omega (arith, few c)

pub overflow_mul-result-2 : goal.overflow_mul-result-2
overflow_mul-result-2 c = omega (arith, square c)

pub overflow_mul-result-3 : goal.overflow_mul-result-3
overflow_mul-result-3 c = omega (arith, weights c)

pub overflow_add-result : goal.overflow_add-result
overflow_add-result c = omega (arith, square c, weights c)

pub overflow_add-result-2 : goal.overflow_add-result-2
overflow_add-result-2 c = omega (arith, square c, weights c)
