-- The vectors of one n as a table of 9 rows. Assumes nothing: these are definitions.
use Rattle.std.specs.Prelude.{List, ℕ, leb, replicate}
use Rattle.definitions.specs.Sums.{firsts, pick}
use Rattle.definitions.specs.Chain.{Chain}
use Rattle.definitions.specs.Vectors.{vector}
use Rattle.laws.specs.ArrayLaws.{zeros}

-- 9 rows of zeros
unfoldable pub blank : List (List ℕ)
blank = replicate 9 (zeros 64)

-- the table of n: row r is U(n,r) for r = 0 to R, and zeros past R
unfoldable pub table_of : Chain → ℕ → ℕ → List (List ℕ)
table_of ch R n = firsts 9 (λ r. pick (leb r R) (vector ch n r) (zeros 64))
