-- What is known of a run that is printed. Assumes nothing.
use Rattle.std.specs.Prelude.{List, ℕ, ◌+◌, ◌*◌, ◌≤◌, length}

-- M states, the highest moment R and the cells of an accepted file's block: it has a row for each state, and may have one more for the start
pub record Shape (M R : ℕ) (cells : List ℕ) : Type 0 where
  pub states : M ≤ 64
  pub highest : R ≤ 8
  pub rows : length cells ≤ (M + 1) * R
