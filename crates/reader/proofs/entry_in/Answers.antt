-- `reader::entry_in` meets its contract: before the diagonal state j is at place j, past it at j − 1. Assumes nothing.
use Rattle.std.specs.Prelude.{◌+◌, ◌*◌, ◌-◌, ◌≤◌, refl, length}
use Rattle.std.proofs.Common.{arith, eq-eqb, ne_eqb, lt-ltb, le-ltb}
use Rattle.reader.proofs.entry_in.Goals.{Else-j-i-2, Then-j-i-2}
use Rattle.reader.proofs.entry_in.Goals as goal

pub returns-then-j-i : goal.returns-then-j-i
returns-then-j-i c =
    let args = c.args in
    (rw (eq-eqb args.j args.i c.if-j-i.true) refl, λ small. small)

-- the rate lies in the row
low : (c : Then-j-i-2) → 4 * c.args.j + 4 ≤ length c.args.row.now
low c =
    let args = c.args in
    rw (lt-ltb args.j args.i c.if-j-i-2.true) at (c.requires c.if-j-i.false)

high : (c : Else-j-i-2) → 4 * (c.args.j - 1) + 4 ≤ length c.args.row.now
high c =
    let args = c.args in
    rw (le-ltb args.j args.i c.if-j-i-2.false) at (c.requires c.if-j-i.false)

pub returns-then-j-i-2 : goal.returns-then-j-i-2
returns-then-j-i-2 c =
    let args = c.args in (
      rw (ne_eqb args.j args.i c.if-j-i.false, lt-ltb args.j args.i c.if-j-i-2.true) c.be.ensures.0,
      λ small. omega arith,
    )

pub returns : goal.returns
returns c =
    let args = c.args in (
      rw (ne_eqb args.j args.i c.if-j-i.false, le-ltb args.j args.i c.if-j-i-2.false) c.be-2.ensures.0,
      λ small. omega arith,
    )

pub overflow_mul-j : goal.overflow_mul-j
overflow_mul-j c = omega (arith, low c)

pub be-requires : goal.be-requires
be-requires c = omega (arith, low c)

pub overflow_mul-j-2 : goal.overflow_mul-j-2
overflow_mul-j-2 c = omega (arith, high c)

pub be-requires-2 : goal.be-requires-2
be-requires-2 c = omega (arith, high c)
