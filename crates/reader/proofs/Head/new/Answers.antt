-- `search` would prove it with no file; this one makes the refusal of a wrong length say where it fails.
use Rattle.std.specs.Prelude.{refl}
use Rattle.std.proofs.Common.{arith}
use Rattle.reader.proofs.Head.new.Goals as goal

pub returns-then-bytes-lt-HEADER-clause-none : goal.returns-then-bytes-lt-HEADER-clause-none
returns-then-bytes-lt-HEADER-clause-none c = (λ none. omega arith, λ short. refl)
