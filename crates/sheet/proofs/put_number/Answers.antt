-- `sheet::put_number` meets its contract: two texts, one after the other. Assumes nothing.
use Rattle.std.proofs.Common.{arith}
use Rattle.definitions.specs.Sheet.{decimal}
use Rattle.writing.specs.Puts.{then}
use Rattle.sheet.specs.TextLaws.{places_limit}
use Rattle.sheet.proofs.put_number.Goals as goal

pub put_digits-requires : goal.put_digits-requires
unfolding decimal
put_digits-requires c = omega (arith, places_limit c.args.x 19)

pub returns : goal.returns
unfolding decimal
returns c = rw (← c.places_of.ensures) (then c.put_digits.ensures c.put.ensures)
