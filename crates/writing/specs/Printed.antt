-- What a text leaves that was written at a buffer's start. Assumes nothing.
use Rattle.std.specs.Prelude.{◌≡◌, List, ℕ, ◌≤◌, length}
use Rattle.definitions.specs.Written.{written}

-- the text stands at the buffer's start, the later bytes are as they were, and count is the text's length
pub record Printed (text old new : List ℕ) (count : ℕ) : Type 0 where
  pub counted : count ≡ length text
  pub inside : count ≤ length new
  pub bytes : new ≡ written text old
