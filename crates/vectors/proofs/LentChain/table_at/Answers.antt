-- `vectors::LentChain::table_at` meets its contract: past the loop the table is that of n. Assumes nothing.
use Rattle.std.proofs.Common.{◌≡◌, ◌-◌, arith}
use Rattle.vectors.proofs.LentChain.table_at.Goals as goal

pub returns : goal.returns
returns c =
    let all : c.loop-k.k - 1 ≡ c.args.n = omega arith in
    rw all at c.loop-k.invariant.filled
