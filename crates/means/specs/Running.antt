-- The running sums A of all cells, and what the functions that make them need.
use Rattle.std.specs.Prelude.{List, [], ℕ, ◌+◌, ◌*◌, ◌/◌, ◌%◌, ◌≤◌, ◌<◌, ◌^◌, min, leb, ltb, length, get_or, drop}
use Rattle.definitions.specs.declared.Sizes.{Sizes}
use Rattle.definitions.specs.Sums.{sum, blocks, pick}
use Rattle.definitions.specs.Chain.{Chain}
use Rattle.definitions.specs.Vectors.{ONE, U}
use Rattle.definitions.specs.Weights.{GREATEST}
use Rattle.definitions.specs.Moment.{term}
use Rattle.laws.specs.LevelLaws.{LEVELS}

-- U(n,r) at i in a table of vectors, for the state i and the r of cell k
abbrev pub in_table : List (List ℕ) → ℕ → ℕ → ℕ
in_table table R k = get_or (get_or table (k % R + 1) []) (k / R) 0

-- the weights from row k on, where a row has LEVELS entries
abbrev pub row_from : List ℕ → ℕ → List ℕ
row_from w k = drop (k * LEVELS) w

-- the term of n and u, with w(n) from a row of weights: none past the level
abbrev pub term_at : List ℕ → ℕ → ℕ → ℕ → ℕ
term_at row n level u = pick (leb n level) (term (get_or row n 0) u) 0

-- x in cell e of a block, where that is one of the count cells of the states, and 0 in the cells past them, which are for the start
abbrev pub of_states : ℕ → ℕ → ℕ → ℕ
of_states count e x = pick (ltb e count) x 0

-- the first n terms of A, for the state and the r of cell k
unfoldable pub part_sum : Chain → List ℕ → ℕ → ℕ → ℕ → ℕ
part_sum ch row R n k = sum n (λ j. of_states (ch.states * R) k (term (get_or row j 0) (U ch j (k % R + 1) (k / R))))

-- the sums in all blocks of B cells after the first n values of n: block k has as many terms, but none past its level
unfoldable pub part_sums : Chain → ℕ → List ℕ → List ℕ → ℕ → ℕ → List ℕ → List ℕ
part_sums ch B levels w R n cells =
    blocks B (length levels) (λ k. part_sum ch (row_from w k) R (min n (get_or levels k 0 + 1))) cells

-- a block has a cell for each r of each state, and at most 520
pub record Fitting (z : Sizes) : Type 0 where
  pub states_within : z.states * z.highest ≤ z.block
  pub block_max : z.block ≤ 520

-- the terms of one n, with the weight w, may be added to the sums in the cells
pub record Addable (z : Sizes) (w : ℕ) (cells : List ℕ) (table : List (List ℕ)) : Type 0 where
  pub enough : z.states * z.highest ≤ length cells
  pub states_max : z.states ≤ 64
  pub highest_pos : 1 ≤ z.highest
  pub highest_max : z.highest ≤ 8
  pub weight_max : w ≤ GREATEST
  pub ticks_max : (k : ℕ) → k < z.states * z.highest → in_table table z.highest k ≤ ONE
  pub room : (k : ℕ) → k < z.states * z.highest → get_or cells k 0 ≤ 1000 * GREATEST

-- the same for one state: its cells are those of its moments
pub record AddableAt (w : ℕ) (cells : List ℕ) (table : List (List ℕ)) (i : ℕ) : Type 0 where
  pub state : i < 64
  pub moments : length cells ≤ 8
  pub weight_max : w ≤ GREATEST
  pub ticks_max : (r : ℕ) → r < length cells → get_or (get_or table (r + 1) []) i 0 ≤ ONE
  pub room : (r : ℕ) → r < length cells → get_or cells r 0 ≤ 1000 * GREATEST

-- the terms of n may be added to the sums in all blocks
pub record AllAddable (z : Sizes) (n : ℕ) (levels w cells : List ℕ) (table : List (List ℕ)) : Type 0 where
  pub fitting : Fitting z
  pub enough : length levels * z.block ≤ length cells
  pub rows : length levels * LEVELS ≤ length w
  pub count_max : length levels ≤ 8
  pub states_max : z.states ≤ 64
  pub highest_pos : 1 ≤ z.highest
  pub highest_max : z.highest ≤ 8
  pub level_max : (k : ℕ) → k < length levels → get_or levels k 0 < LEVELS
  pub weight_max : (k : ℕ) → k < length levels → n ≤ get_or levels k 0 → get_or (row_from w k) n 0 ≤ GREATEST
  pub ticks_max : (k : ℕ) → k < z.states * z.highest → in_table table z.highest k ≤ ONE
  pub room : (k e : ℕ) → k < length levels → e < z.states * z.highest → get_or cells (k * z.block + e) 0 ≤ 1000 * GREATEST

-- the sums may be divided by S
pub record Divisible (sums : List ℕ) (S : ℕ) : Type 0 where
  pub total_pos : 0 < S
  pub total_max : S < 2 ^ 62
  pub below : (k : ℕ) → k < length sums → get_or sums k 0 ≤ S

-- the sums in each block may be divided by its S
pub record AllDivisible (cells totals : List ℕ) (size : ℕ) : Type 0 where
  pub enough : length totals * size ≤ length cells
  pub count_max : length totals ≤ 8
  pub size_max : size ≤ 520
  pub total_pos : (k : ℕ) → k < length totals → 0 < get_or totals k 0
  pub total_max : (k : ℕ) → k < length totals → get_or totals k 0 < 2 ^ 62
  pub below : (k c : ℕ) → k < length totals → c < size → get_or cells (k * size + c) 0 ≤ get_or totals k 0

-- what the sums are made from, beside a chain: for each level a row of weights
pub record Summable (z : Sizes) (levels w : List ℕ) : Type 0 where
  pub fitting : Fitting z
  pub highest_pos : 1 ≤ z.highest
  pub highest_max : z.highest ≤ 8
  pub count_max : length levels ≤ 8
  pub rows : length levels * LEVELS ≤ length w
  pub level_max : (k : ℕ) → k < length levels → get_or levels k 0 < LEVELS
  pub weight_max : (k n : ℕ) → k < length levels → n ≤ get_or levels k 0 → get_or (row_from w k) n 0 ≤ GREATEST

-- no level is above the largest, which is one that a level may be
pub record Topmost (largest : ℕ) (levels : List ℕ) : Type 0 where
  pub above : (k : ℕ) → k < length levels → get_or levels k 0 ≤ largest
  pub largest_max : largest < LEVELS
