-- The part that is copied is the last bytes of n. Assumes nothing.
use Rattle.std.proofs.Common.{◌≡◌, ◌-◌, take, drop, length, ap, arith}
use Rattle.definitions.specs.Bytes.{bytes_of}
use Rattle.writing.specs.Puts.{Puts, wider}
use Rattle.writing.specs.TextLaws.{last_bytes, length_bytes}
use Rattle.writing.proofs.Pen.put_big.Goals as goal

pub returns : goal.returns
returns c =
    let args = c.args in
    let part = take (8 - (8 - args.width)) (drop (8 - args.width) c.to_be_bytes.result) in
    let whole : part ≡ bytes_of args.width args.n = rw c.to_be_bytes.ensures (last_bytes args.width args.n (omega arith)) in
    let put : Puts (bytes_of args.width args.n) (length part) args.self.now c.put_word.new.self = rw (← whole) c.put_word.ensures in
    wider (omega (arith, ap length whole, length_bytes args.width args.n)) put
