-- The levels, the weights and the moments of a chain that stands in arrays, for a list of expected jump counts and one tolerance.
use Rattle.std.specs.Prelude.{List, ◌≡◌, ℕ, ◌+◌, ◌*◌, ◌/◌, ◌%◌, ◌≤◌, ◌<◌, length, get_or}
use Rattle.definitions.specs.declared.Sizes.{Sizes}
use Rattle.definitions.specs.Sums.{largest, firsts, over, rows_stored}
use Rattle.definitions.specs.Chain.{Chain}
use Rattle.definitions.specs.Vectors.{U}
use Rattle.definitions.specs.Weights.{weight, weight_sum}
use Rattle.definitions.specs.Level.{level}
use Rattle.definitions.specs.Moment.{weighted_mean}
use Rattle.laws.specs.LevelLaws.{LEVELS}
use Rattle.means.specs.Running.{of_states, Fitting}

-- the limits of document 01, of a list of X and ε, and at most 8 X
pub record Truncatable (xs : List ℕ) (ε : ℕ) : Type 0 where
  pub count_max : length xs ≤ 8
  pub jumps_max : (k : ℕ) → k < length xs → get_or xs k 0 ≤ 256000000
  pub tolerance_pos : 1 ≤ ε
  pub tolerance_max : ε ≤ 100000000

-- the level of X number k
abbrev pub level_of : List ℕ → ℕ → ℕ → ℕ
level_of xs ε k = level (get_or xs k 0) ε

-- and its S(N)
abbrev pub total_of : List ℕ → ℕ → ℕ → ℕ
total_of xs ε k = weight_sum (get_or xs k 0) (level_of xs ε k)

-- its weights, w(0) to w(N)
abbrev pub weight_row : List ℕ → ℕ → ℕ → List ℕ
weight_row xs ε k = firsts (level_of xs ε k + 1) (weight (get_or xs k 0))

-- the rows of weights, LEVELS entries for each X: those of X number k stand in row k, and all other entries are as before
abbrev pub weight_rows : List ℕ → ℕ → List ℕ → List ℕ
weight_rows xs ε before = rows_stored (weight_row xs ε) LEVELS (length xs) before

-- each X has its level, its S(N) and its weights, what is lent past them is as before, and top is the largest level
pub record Truncations (xs : List ℕ) (ε top : ℕ) (levels₀ levels totals₀ totals w₀ w : List ℕ) : Type 0 where
  pub is_largest : top ≡ largest (length xs) (level_of xs ε)
  pub are_levels : levels ≡ over (length xs) (level_of xs ε) levels₀
  pub are_totals : totals ≡ over (length xs) (total_of xs ε) totals₀
  pub are_weights : w ≡ weight_rows xs ε w₀

-- what stands in cell k: the weighted mean of U(n,r) at i, for the state i and the r of the cell; past the states 0
unfoldable pub cell_mean : Chain → ℕ → ℕ → ℕ → ℕ → ℕ
cell_mean ch X R N k = of_states (ch.states * R) k (weighted_mean X (λ n. U ch n (k % R + 1) (k / R)) N)

-- what stands in cell c of block k: that of X number k, at its level
abbrev pub means_of : Chain → List ℕ → ℕ → ℕ → ℕ → ℕ → ℕ
means_of ch xs ε R k = cell_mean ch (get_or xs k 0) R (level_of xs ε k)

-- the limits of document 01, of the sizes of a chain, a list of X, and ε
pub record Solvable (z : Sizes) (xs : List ℕ) (ε : ℕ) : Type 0 where
  pub fitting : Fitting z
  pub highest_pos : 1 ≤ z.highest
  pub highest_max : z.highest ≤ 8
  pub truncatable : Truncatable xs ε
