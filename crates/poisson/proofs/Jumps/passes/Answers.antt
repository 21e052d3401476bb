-- `poisson::Jumps::passes` meets its contract. Assumes nothing.
use Rattle.std.proofs.Common.{ℕ, ◌*◌, ◌/◌, ap, sym, ◌∙◌, arith}
use Rattle.definitions.specs.Level.{BILLION, allowance}
use Rattle.laws.specs.WeightLaws.{weight_sum_max}
use Rattle.poisson.proofs.Search.{too_early, tested}
use Rattle.poisson.proofs.Jumps.passes.Goals as goal

pub returns-then-self : goal.returns-then-self
returns-then-self c = sym (too_early c.args.self.x c.args.tolerance c.args.self.n (omega arith))

pub allowance-requires : goal.allowance-requires
allowance-requires c = omega (arith, weight_sum_max c.args.self.x c.args.self.n)

pub returns : goal.returns
unfolding allowance
returns c =
    let at = c.args.self in
    tested at.x c.args.tolerance at.n _ _ (omega arith) c.tail_bound-t.ensures.0
    (c.allowance.ensures.0 ∙ ap (λ (s : ℕ). s * c.args.tolerance / BILLION) c.requires.0)
