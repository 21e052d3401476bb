-- Unsigned big-endian numbers in a list of bytes.
use Rattle.std.specs.Prelude.{ℕ, zero, suc, ◌+◌, ◌*◌, ◌/◌, ◌%◌, List, [], ◌∷◌, ◌++◌, get_or}

-- the number of width bytes at place at, the first byte the highest
unfoldable pub big : ℕ → List ℕ → ℕ → ℕ
big zero s at = 0
big (suc width) s at = big width s at * 256 + get_or s (at + width) 0

-- the bytes of n, so many of them, the first byte the highest
unfoldable pub bytes_of : ℕ → ℕ → List ℕ
bytes_of zero n = []
bytes_of (suc width) n = bytes_of width (n / 256) ++ (n % 256 ∷ [])
