-- `sheet::put_label` meets its contract. Assumes nothing.
use Rattle.std.specs.Prelude.{◌+◌}
use Rattle.std.proofs.Common.{arith}
use Rattle.definitions.specs.Sheet.{places}
use Rattle.writing.specs.Puts.{wider}
use Rattle.sheet.specs.TextLaws.{places_short, label_state, label_start}
use Rattle.sheet.proofs.put_label.Goals as goal

-- the number of a state, which has at most two digits
pub returns-then-i-states : goal.returns-then-i-states
returns-then-i-states c =
    let args = c.args in
    let short = places_short (args.i + 1) 1 19 (omega arith) in
    rw (label_state args.states args.i (omega arith)) (wider {m = places (args.i + 1) 19 + 1} (omega (arith, short)) c.put_number.ensures)

-- the word
pub returns-else-i-states : goal.returns-else-i-states
returns-else-i-states c =
    let args = c.args in
    rw (label_start args.states args.i (omega arith)) c.put_word.ensures

pub put_number-requires : goal.put_number-requires
put_number-requires c = omega (arith, places_short (c.args.i + 1) 1 19 (omega arith))
