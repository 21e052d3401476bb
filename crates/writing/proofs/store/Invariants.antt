use Rattle.std.proofs.Common.{ℕ, ◌<◌, ◌≡◌, get_or}
use Rattle.writing.proofs.store.Given as goal

-- the bytes so far are the text's
abbrev pub invariant-loop-k : goal.invariant-loop-k
invariant-loop-k l = (i : ℕ) → i < l.k → get_or l.bytes i 0 ≡ get_or l.text i 0
