-- "Moment": A, the last quotient (rounded as document 02, S-1, has it), the start figure (S-5), the cells after a call, and its outcome, with the count of row means (S-8).
use Rattle.std.specs.Prelude.{ℕ, suc, ◌+◌, ◌*◌, ◌-◌, ◌/◌, ◌%◌, ◌≤◌, List, ltb}
use Rattle.definitions.specs.declared.Run.{Run}
use Rattle.definitions.specs.Sums.{sum, over, pick}
use Rattle.definitions.specs.Chain.{Model, model_of, chain_of, jump_millionths}
use Rattle.definitions.specs.Rules.{Answer, accepted, refused, block_size, rows, first_held}
use Rattle.definitions.specs.Vectors.{ONE, U, row_means}
use Rattle.definitions.specs.Weights.{MILLION, weight, weight_sum}
use Rattle.definitions.specs.Level.{level, last_level}

-- one term of A: w × u over 10^12, down
unfoldable pub term : ℕ → ℕ → ℕ
term w u = w * u / ONE

-- A: the sum for n = 0 to N of the terms of w(n) and u(n)
unfoldable pub weighted : ℕ → (ℕ → ℕ) → ℕ → ℕ
weighted X u N = sum (suc N) (λ n. term (weight X n) (u n))

-- a over c to the nearest whole number, a half going up: a / c + 1/2, down
unfoldable pub nearest : ℕ → ℕ → ℕ
nearest a c = (2 * a + c) / (2 * c)

-- n is at most one half away from a over c, either way: twice the distance of n × c from a is at most c
pub record WithinHalf (a c n : ℕ) : Type 0 where
  pub above : 2 * (n * c) ≤ 2 * a + c
  pub below : 2 * a ≤ 2 * (n * c) + c

-- the last quotient: A × 10^12 over S(N), to the nearest tick
unfoldable pub last_quotient : ℕ → ℕ → ℕ
last_quotient a s = nearest (a * ONE) s

-- the weighted mean of u(0), …, u(N), in ticks
unfoldable pub weighted_mean : ℕ → (ℕ → ℕ) → ℕ → ℕ
weighted_mean X u N = last_quotient (weighted X u N) (weight_sum X N)

-- the moment r of state i, in ticks, at level N: the weighted mean of U(n,r) at i
unfoldable pub moment : Model → ℕ → ℕ → ℕ → ℕ
moment m N r i = weighted_mean (jump_millionths m) (λ n. U (chain_of m) n r i) N

-- the mean of p over M states with the starting weights a: the sum over i of a(i) × p(i), over 1,000,000, down
unfoldable pub start_mean : ℕ → (ℕ → ℕ) → (ℕ → ℕ) → ℕ
start_mean M a p = sum M (λ i. a i * p i) / MILLION

-- the start figure for r, in ticks, at level N: that mean of the moments r
unfoldable pub start_figure : Model → ℕ → ℕ → ℕ
start_figure m N r = start_mean m.states m.start (moment m N r)

-- (i − 1) × R + (r − 1): the cell of state i, counted from 0 here, and moment r. The start's cells follow as those of one more state.
unfoldable pub cell_of : Model → ℕ → ℕ → ℕ
cell_of m i r = i * m.highest + (r - 1)

-- row i of a block, for r: the moment of state i, or past the last state the start figure
unfoldable pub figure_of : Model → ℕ → ℕ → ℕ → ℕ
figure_of m N r i = pick (ltb i m.states) (moment m N r i) (start_figure m N r)

-- what stands in cell k: the figure of the row and the r whose cell it is
unfoldable pub cell : Model → ℕ → ℕ → ℕ
cell m N k = figure_of m N (k % m.highest + 1) (k / m.highest)

-- the level of a model
unfoldable pub model_level : Model → ℕ
model_level m = level (jump_millionths m) m.tolerance

-- the row means of a model up to level N
abbrev pub means_to : Model → ℕ → ℕ
means_to m N = row_means N m.states m.highest

-- the run of a model up to level N
abbrev pub run_to : Model → ℕ → Run
run_to m N = record { level = N; means = means_to m N }

-- the run of a model, up to its level
abbrev pub run_of : Model → Run
run_of m = run_to m (model_level m)

-- what a call answers of the file s lent with a number of cells: the first row that holds, or the run
unfoldable pub outcome : List ℕ → ℕ → Answer Run
outcome s cells = first_held (rows s cells) (run_of (model_of s))

-- the papers' values for each answer: all answer cells after the call, from those before it
unfoldable pub cells_after : Answer Run → List ℕ → List ℕ → List ℕ
cells_after (accepted run) s cells = over (block_size s) (cell (model_of s) run.level) cells
cells_after (refused k) s cells = cells

-- a number that is lent for the count of row means: what it holds after a call that answers the count, from what it held before. A refusal counts nothing.
abbrev pub count_after : Answer ℕ → ℕ → ℕ
count_after (accepted n) before = n
count_after (refused k) before = before

-- of an answer that says a level: it is at most 2 × m + 51 (document 02, S-8)
abbrev pub LevelBounded : Answer ℕ → List ℕ → Type 0
LevelBounded (accepted N) s = N ≤ last_level (jump_millionths (model_of s))
LevelBounded (refused k) s = Unit {0}
