-- The last quotient, rounded by its remainder.
use Rattle.std.specs.Prelude.{◌≡◌, ◌+◌, ◌*◌, ◌<◌}
use Rattle.std.proofs.Common.{ap, mul-le-mul_right, arith}
use Rattle.definitions.specs.Vectors.{ONE}
use Rattle.definitions.specs.Moment.{last_quotient}
use Rattle.laws.specs.Rounding.{quotient, remainder, quotient_at_most, remainder_below}
use Rattle.laws.specs.MomentLaws.{last_up, last_down, last_rounds}
use Rattle.muldiv.specs.QuotientLaws.{scalable_by}
use Rattle.means.proofs.last_quotient.Goals as goal

pub scaled-down-requires : goal.scaled-down-requires
scaled-down-requires c =
    scalable_by c.args.sum ONE c.args.total ONE c.requires.1 (omega arith) (omega arith) c.requires.2 (omega (arith, mul-le-mul_right ONE c.requires.0)) (omega arith)

-- twice the remainder, below twice S, and one more than the quotient, which is at most ONE
pub overflow_mul-down : goal.overflow_mul-down
overflow_mul-down c =
    omega (arith, ap remainder c.scaled-down.ensures, remainder_below (c.args.sum * ONE) c.args.total c.requires.1)

pub overflow_add-result : goal.overflow_add-result
overflow_add-result c =
    omega (arith, ap quotient c.scaled-down.ensures, quotient_at_most (c.args.sum * ONE) ONE c.args.total (omega (arith, mul-le-mul_right ONE c.requires.0)))

pub returns-then-down-total : goal.returns-then-down-total
returns-then-down-total c =
    let args = c.args in
    let pos : 0 < args.total = omega arith in
    let left = ap remainder c.scaled-down.ensures in
    let up : c.scaled-down.result.quotient + 1 ≡ last_quotient args.sum args.total = omega (arith, ap quotient c.scaled-down.ensures, last_up args.sum args.total pos (omega (arith, left))) in
    (up, rw up (last_rounds args.sum args.total pos))

pub returns-else-down-total : goal.returns-else-down-total
returns-else-down-total c =
    let args = c.args in
    let pos : 0 < args.total = omega arith in
    let left = ap remainder c.scaled-down.ensures in
    let down : c.scaled-down.result.quotient ≡ last_quotient args.sum args.total = omega (arith, ap quotient c.scaled-down.ensures, last_down args.sum args.total (omega (arith, left))) in
    (down, rw down (last_rounds args.sum args.total pos))
