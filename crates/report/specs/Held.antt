-- What a buffer holds of the standard input.
use Rattle.std.specs.Prelude.{List, ◌≡◌, ℕ, length, take}

-- the first count bytes of the buffer are the input's, as far as the buffer has room for it
abbrev pub Holds : List ℕ → ℕ → List ℕ → Type 0
Holds buffer count input = take count buffer ≡ take (length buffer) input
