-- `sheet::put_line` meets its contract: four texts, one after the other. Assumes nothing.
use Rattle.writing.specs.Puts.{then}
use Rattle.sheet.proofs.put_line.Goals as goal

pub returns : goal.returns
returns c = then (then (then c.put_label.ensures c.put_number.ensures) c.put_figure.ensures) c.put.ensures
