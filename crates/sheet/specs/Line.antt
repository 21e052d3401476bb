-- A line's text. Assumes nothing.
use Rattle.std.specs.Prelude.{List, [], ◌∷◌, ◌++◌, ℕ, ◌+◌}
use Rattle.definitions.specs.Sheet.{places, decimal, figure, label}

-- one line's text, of row i of M states, an r and ticks, and how wide it is at most
abbrev pub line : ℕ → ℕ → ℕ → ℕ → List ℕ
line M i r ticks = (label M i ++ 32 ∷ []) ++ (decimal r ++ 32 ∷ []) ++ figure ticks ++ 10 ∷ []

abbrev pub line_width : ℕ → ℕ
line_width r = 6 + (places r 19 + 1) + 14 + 1
