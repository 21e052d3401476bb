-- `put_header` meets its contract: three texts, one after the other. Assumes nothing.
use Rattle.std.proofs.Common.{List, ℕ, drop, length-take, arith}
use Rattle.writing.specs.Puts.{then, wider}
use Rattle.convert.proofs.put_header.Goals as goal

pub returns : goal.returns
returns c =
    let bytes : List ℕ = c.args.bytes.now in
    wider (omega (arith, length-take 10 (drop 3 bytes))) (then (then c.put_big.ensures c.put.ensures) c.put_word.ensures)
