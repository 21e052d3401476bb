-- `sheet::put_word_line` meets its contract: two texts, one after the other. Assumes nothing.
use Rattle.writing.specs.Puts.{then}
use Rattle.sheet.proofs.put_word_line.Goals as goal

pub returns : goal.returns
returns c = then c.put_word.ensures c.put_number.ensures
