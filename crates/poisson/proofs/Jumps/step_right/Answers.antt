-- `poisson::Jumps::step_right` meets its contract. Assumes nothing.
use Rattle.std.proofs.Common.{ℕ, ◌+◌, ◌*◌, ◌/◌, sym, ap, ◌∙◌, arith}
use Rattle.definitions.specs.Weights.{MILLION}
use Rattle.laws.specs.Rounding.{quotient, drops}
use Rattle.laws.specs.WeightLaws.{mode_high, weight_max, weight_right}
use Rattle.muldiv.specs.QuotientLaws.{scalable_part}
use Rattle.poisson.proofs.Jumps.step_right.Goals as goal

pub scaled-next-requires : goal.scaled-next-requires
scaled-next-requires c =
    let at = c.args.self in
    scalable_part at.w at.x _ (omega arith) (omega (arith, weight_max at.x at.n)) (omega (arith, mode_high at.x)) (omega arith)

pub invariant_of-result : goal.invariant_of-result
invariant_of-result c =
    let at = c.args.self in
    record { weighed = ap quotient c.scaled-next.ensures ∙ ap (λ (w : ℕ). w * at.x / ((at.n + 1) * MILLION)) at.weighed ∙ sym (weight_right at.x at.n c.requires.0); limited = at.limited }

pub returns : goal.returns
returns c =
    let at = c.args.self in
    (omega arith, omega arith, drops (at.w * at.x) ((at.n + 1) * MILLION) c.scaled-next.ensures (omega arith))
