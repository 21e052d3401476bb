-- `put_weights` meets its contract: two texts, one after the other. Assumes nothing.
use Rattle.std.proofs.Common.{arith}
use Rattle.writing.specs.Puts.{then, wider}
use Rattle.convert.proofs.put_weights.Goals as goal

pub returns : goal.returns
returns c = wider (omega arith) (then c.put_big.ensures c.put_zeros.ensures)
