-- `writing::put_header` meets its contract: six texts, one after the other. Assumes nothing.
use Rattle.std.proofs.Common.{arith}
use Rattle.writing.specs.Header.{header_put}
use Rattle.writing.specs.Puts.{then}
use Rattle.writing.proofs.Pen.put_header.Goals as goal

pub returns : goal.returns
returns c =
    let args = c.args in
    header_put args.header args.numbers _ _ _ _ _ _
    (then (then (then (then (then c.put_big.ensures c.put.ensures) c.put-2.ensures) c.put-3.ensures) c.put_big-2.ensures) c.put_big-3.ensures)
    (omega arith)
    (omega arith)
    (omega arith)
    (omega arith)
    (omega arith)
    (omega arith)
