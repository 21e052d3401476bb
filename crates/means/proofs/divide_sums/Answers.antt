-- The sums are divided one after the other: from this one on they stand as they were.
use Rattle.std.proofs.Common.{◌≡◌, sym, ◌∙◌, ap, List, ℕ, get_or, length, arith}
use Rattle.definitions.specs.Moment.{last_quotient}
use Rattle.laws.specs.ListLaws.{over_none, over_store, get_d_over_past}
use Rattle.means.proofs.divide_sums.Goals as goal
use Rattle.means.proofs.divide_sums.Goals.{In-loop-sum}

pub loop-sum-init : goal.loop-sum-init
loop-sum-init c = sym (over_none _ c.args.sums.now)

-- this one still holds its sum
standing : (c : In-loop-sum) → get_or c.loop-sum.sum-items c.loop-sum.sum-index 0 ≡ get_or c.args.sums.now c.loop-sum.sum-index 0
standing c =
    ap (λ (l : List ℕ). get_or l c.loop-sum.sum-index 0) c.loop-sum.invariant ∙ get_d_over_past 0 c.loop-sum.sum-index _ c.args.sums.now c.loop-sum.sum-index (omega arith)

pub last_quotient-requires : goal.last_quotient-requires
last_quotient-requires c =
    (omega (arith, standing (goal.at.last_quotient-requires c).In-loop-sum, c.requires.below c.loop-sum.sum-index c.loop-sum-test.true), c.requires.total_pos, c.requires.total_max)

pub loop-sum-preserved : goal.loop-sum-preserved
loop-sum-preserved c =
    over_store c.loop-sum.sum-index _ c.args.sums.now _ c.last_quotient.result (omega arith) c.loop-sum.invariant
    (c.last_quotient.ensures.0 ∙ ap (λ (a : ℕ). last_quotient a c.args.total) (standing (goal.at.loop-sum-preserved c).In-loop-sum))

pub returns : goal.returns
returns c =
    let all : c.loop-sum.sum-index ≡ length c.args.sums.now = omega arith in
    rw all at c.loop-sum.invariant
