-- `put_draws` meets its contract: after each turn one draw more stands there. Assumes nothing.
use Rattle.std.proofs.Common.{sym, refl, ap, arith}
use Rattle.definitions.specs.Sums.{firsts}
use Rattle.definitions.specs.Fields.{words_of}
use Rattle.definitions.specs.Practice.{next, upper}
use Rattle.laws.specs.PracticeLaws.{stream_first, stream_next, draw_next}
use Rattle.writing.specs.Puts.{nothing}
use Rattle.practice.specs.Texts.{one_more}
use Rattle.practice.proofs.put_draws.Goals as goal

pub loop-init : goal.loop-init
unfolding firsts words_of
loop-init c = record { put = nothing refl; number = sym (stream_first c.args.from.number) }

pub loop-preserved : goal.loop-preserved
loop-preserved c =
    let loop = c.loop in
    let from = c.args.from.number in
    let step = ap next loop.invariant.number in
    record {
      put = one_more from loop.counter _ loop.invariant.put c.put_big.ensures (omega (arith, ap upper step, draw_next from loop.counter));
      number = omega (arith, step, stream_next from loop.counter);
    }
