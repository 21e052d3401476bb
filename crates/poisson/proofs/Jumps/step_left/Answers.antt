-- `poisson::Jumps::step_left` meets its contract. Assumes nothing.
use Rattle.std.proofs.Common.{◌≡◌, ℕ, ◌+◌, ◌-◌, ◌*◌, ◌/◌, ◌≤◌, sym, ap, ◌∙◌, arith}
use Rattle.std.proofs.Math.Nat.{mul_assoc}
use Rattle.definitions.specs.Weights.{MILLION, mode, weight}
use Rattle.laws.specs.Rounding.{quotient, drops}
use Rattle.laws.specs.WeightLaws.{mode_low, weight_max, weight_left}
use Rattle.muldiv.specs.QuotientLaws.{scalable_part}
use Rattle.poisson.proofs.Jumps.step_left.Goals as goal

-- the divisor's million beside n: w(n − 1) = w(n) × (n × 1,000,000) over X, down
weight_before : (X n : ℕ) → 1 ≤ n → n ≤ mode X → weight X (n - 1) ≡ weight X n * (n * MILLION) / X
weight_before X n pos low =
    let here : n - 1 + 1 ≡ n = omega arith in
    weight_left X (n - 1) (omega arith) ∙ rw (here, mul_assoc)

pub overflow_mul-self : goal.overflow_mul-self
overflow_mul-self c = omega (arith, mode_low c.args.self.x)

pub scaled-before-requires : goal.scaled-before-requires
scaled-before-requires c =
    let at = c.args.self in
    scalable_part at.w _ at.x (omega (arith, mode_low at.x)) (omega (arith, weight_max at.x at.n)) (omega (arith, mode_low at.x)) (omega arith)

pub invariant_of-result : goal.invariant_of-result
invariant_of-result c =
    let at = c.args.self in
    record { weighed = ap quotient c.scaled-before.ensures ∙ ap (λ (w : ℕ). w * (at.n * MILLION) / at.x) at.weighed ∙ sym (weight_before at.x at.n c.requires.0 c.requires.1); limited = at.limited }

pub returns : goal.returns
returns c =
    let at = c.args.self in
    let product : at.w * (at.n * MILLION) ≡ at.w * at.n * MILLION = omega arith in
    (omega arith, omega arith, rw (← product) (drops (at.w * (at.n * MILLION)) at.x c.scaled-before.ensures (omega (arith, mode_low at.x))))
