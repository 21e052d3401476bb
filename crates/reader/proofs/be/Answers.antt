-- `reader::be` meets its contract: after k bytes the value is the number of k bytes. Assumes nothing.
use Rattle.std.specs.Prelude.{ℕ, ◌+◌, ◌-◌, ◌<◌, ◌≤◌, ◌^◌, ◌*◌, List, ◌≡◌, length, get_or, take, drop}
use Rattle.std.proofs.Common.{sym, ap₂, ◌∙◌, arith}
use Rattle.std.proofs.lemmas.List.{get_or-take, get_or-drop, length-drop, length-take-le}
use Rattle.laws.specs.ByteLaws.{big_none, big_more, below_more, below_wider}
use Rattle.reader.proofs.be.Goals.{After-from}
use Rattle.reader.proofs.be.Goals as goal

part : (s : List ℕ) (at width : ℕ) → at + width ≤ length s → length (take (at + width - at) (drop at s)) ≡ width
part s at width room =
    let size : at + width - at ≡ width = omega arith in
    rw size (length-take-le width (drop at s) (omega (arith, length-drop at s)))

-- in a turn at most three bytes have been read
module _ (c : After-from) where
  few : c.loop-byte.byte-index < c.args.width
  few = omega (arith, c.loop-byte-test.true, part c.args.bytes.now c.args.at c.args.width c.requires.0)

  small : c.loop-byte.value < 256 ^ 3
  small = below_wider c.loop-byte.value c.loop-byte.byte-index 3 c.loop-byte.invariant.small (omega (arith, few))

  byte : c.from.result ≡ get_or c.args.bytes.now (c.args.at + c.loop-byte.byte-index) 0
  byte =
      c.from.ensures
      ∙ get_or-take _ _ c.loop-byte.byte-index 0 (omega (arith, few))
      ∙ get_or-drop c.args.at c.args.bytes.now c.loop-byte.byte-index 0

  below : c.from.result < 256
  below = omega (arith, byte, c.type_inv.bytes (c.args.at + c.loop-byte.byte-index))

pub loop-byte-init : goal.loop-byte-init
loop-byte-init c = record { read = sym (big_none _ _); small = omega arith }

pub overflow_mul-value : goal.overflow_mul-value
overflow_mul-value c =
    let few : c.loop-byte.byte-index ≤ 3 = omega (arith, c.loop-byte-test.true, part c.args.bytes.now c.args.at c.args.width c.requires.0) in
    omega (arith, below_wider c.loop-byte.value c.loop-byte.byte-index 3 c.loop-byte.invariant.small few)

pub overflow_add-value : goal.overflow_add-value
overflow_add-value c = omega (arith, small c, below c)

pub loop-byte-preserved : goal.loop-byte-preserved
loop-byte-preserved c =
    let now = c.loop-byte in
    record {
      read = ap₂ (λ (a b : ℕ). a * 256 + b) now.invariant.read (byte c) ∙ sym (big_more now.byte-index c.args.bytes.now c.args.at);
      small = below_more now.value now.byte-index c.from.result now.invariant.small (below c);
    }

pub returns : goal.returns
returns c =
    let now = c.loop-byte in
    let all : now.byte-index ≡ c.args.width = omega (arith, part c.args.bytes.now c.args.at c.args.width c.requires.0) in
    (rw all at now.invariant.read, below_wider now.value now.byte-index 4 now.invariant.small (omega arith))
