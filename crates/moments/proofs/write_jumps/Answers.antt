-- X of each time, one after the other.
use Rattle.std.proofs.Common.{sym, arith}
use Rattle.laws.specs.ListLaws.{over_none, over_store}
use Rattle.moments.proofs.write_jumps.Goals as goal

pub loop-k-init : goal.loop-k-init
loop-k-init c = sym (over_none _ c.args.xs.now)

pub loop-k-preserved : goal.loop-k-preserved
loop-k-preserved c = over_store c.loop-k.k _ c.args.xs.now c.loop-k.xs _ (omega (arith, c.requires.1)) c.loop-k.invariant c.jump_millionths.ensures
