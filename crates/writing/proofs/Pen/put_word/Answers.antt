-- The part that is stored is the word. Assumes nothing.
use Rattle.std.proofs.Common.{arith, refl}
use Rattle.writing.specs.Puts.{stored}
use Rattle.writing.proofs.Pen.put_word.Goals as goal

pub returns : goal.returns
returns c = stored _ c.store.ensures refl (omega arith) refl refl refl
