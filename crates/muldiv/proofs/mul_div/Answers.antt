-- `muldiv::mul_div` meets its contract. Assumes nothing.
use Rattle.std.proofs.Common.{◌<◌, ◌%◌, ◌*◌, sym, ap₂, ◌∙◌, ⊎_elim, arith}
use Rattle.laws.specs.Rounding.{quotient_unique, remainder_unique, divides}
use Rattle.muldiv.specs.MulDiv.{fitted}
use Rattle.muldiv.specs.QuotientLaws.{zero_divisor, large_a, large_b, large_c, in_range}
use Rattle.muldiv.proofs.Arithmetic.{joined}
use Rattle.muldiv.proofs.mul_div.Goals as goal

-- c is 0
pub returns-then-c-eq0 : goal.returns-then-c-eq0
returns-then-c-eq0 c = sym (zero_divisor _ _ _ c.if-c-eq0.true)

-- a, b or c is too large
pub returns-then-a-ge-LIMIT : goal.returns-then-a-ge-LIMIT
returns-then-a-ge-LIMIT c =
    let args = c.args in
    ⊎_elim (λ w. sym (large_a args.a args.b args.c (omega arith)))
    (⊎_elim (λ w. sym (large_b args.a args.b args.c (omega arith))) (λ w. sym (large_c args.a args.b args.c (omega arith))))
    c.then-a-ge-LIMIT.either

-- a × b is (a / c) × c × b, which holds c (a / c) × b times, and (a % c) × b
pub returns : goal.returns
returns c =
    let args = c.args in
    let low = c.divide_by_bits-low in
    let pos : 0 < args.c = omega arith in
    let parts = joined args.a args.b args.c low.result.quotient low.result.remainder (rw low.ensures (divides (args.a % args.c * args.b) args.c pos)) in
    c.total.ensures
    ∙ ap₂ fitted (sym (quotient_unique _ _ _ _ parts.rest parts.whole)) (sym (remainder_unique _ _ _ _ parts.rest parts.whole))
    ∙ sym
    (in_range args.a args.b args.c pos (omega arith) (omega arith) (omega arith))
