-- `poisson::Jumps::tail_bound` meets its contract. Assumes nothing.
use Rattle.std.proofs.Common.{◌≡◌, ◌+◌, ◌*◌, ◌-◌, ap, arith}
use Rattle.definitions.specs.Weights.{MILLION, mode}
use Rattle.laws.specs.Rounding.{quotient, drops}
use Rattle.laws.specs.WeightLaws.{mode_low, weight_max}
use Rattle.poisson.proofs.Search.{tail, tail_max, tail_scalable}
use Rattle.poisson.proofs.Jumps.tail_bound.Goals as goal

pub overflow_add-self : goal.overflow_add-self
overflow_add-self c = omega (arith, weight_max c.args.self.x c.args.self.n)

pub overflow_sub-self : goal.overflow_sub-self
overflow_sub-self c = omega (arith, mode_low c.args.self.x)

pub scaled-past-requires : goal.scaled-past-requires
scaled-past-requires c =
    let at = c.args.self in
    tail_scalable at.x at.n _ (omega arith) (omega arith) (omega arith) (omega (arith, weight_max at.x at.n))

pub overflow_add-result : goal.overflow_add-result
overflow_add-result c =
    let at = c.args.self in
    omega
    (arith, ap quotient (rw c.mode_of-m.ensures at c.scaled-past.ensures), tail_max at.x at.n (at.w + at.n - mode at.x) (omega arith) (omega arith), weight_max at.x at.n)

pub returns : goal.returns
returns c =
    let at = c.args.self in
    let past = c.scaled-past.result.quotient in
    let less_1 : 1 + past - 1 ≡ past = omega arith in
    let divided = rw c.mode_of-m.ensures at c.scaled-past.ensures in (
      omega (arith, ap quotient divided, tail at.x at.n at.w at.weighed),
      rw less_1 (drops ((at.w + at.n - mode at.x) * at.x) ((at.n + 1) * MILLION - at.x) divided (omega arith)),
    )
