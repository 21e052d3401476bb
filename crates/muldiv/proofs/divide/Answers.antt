-- `muldiv::divide` meets its contract. `search` would prove it with no file; this one makes the refusal of a wrong remainder say where it fails. Assumes nothing.
use Rattle.std.proofs.Common.{arith}
use Rattle.laws.specs.Rounding.{same_parts}
use Rattle.muldiv.proofs.divide.Goals as goal

pub returns : goal.returns
returns c = same_parts _ _ (omega arith) (omega arith)
