-- `muldiv::divide_by_bits` meets its contract. Assumes nothing.
use Rattle.std.proofs.Common.{◌≡◌, ◌*◌, ap, arith}
use Rattle.laws.specs.Rounding.{division_is}
use Rattle.muldiv.proofs.Arithmetic.{walk_goes_on, walk_ends}
use Rattle.muldiv.proofs.divide_by_bits.Goals as goal

pub loop-k-preserved : goal.loop-k-preserved
loop-k-preserved c =
    let args = c.args in
    let loop = c.loop-k in
    let added = ap (λ n. args.a * n) c.bit.ensures in
    walk_goes_on args.a args.b args.c loop.k loop.quotient loop.remainder _ _ loop.invariant c.divide_by_few-next.ensures (omega arith) (omega arith) (omega arith)

pub returns : goal.returns
returns c =
    let loop = c.loop-k in
    let args = c.args in
    let end : loop.k ≡ 0 = omega arith in
    division_is _ _ _ _ (walk_ends args.a args.b args.c loop.quotient loop.remainder (rw end at loop.invariant))
