-- Document 02, S-3, "One model, several times": the levels and the blocks of a file for a list of times, demand 3 of them, and the count of row means (S-8).
use Rattle.std.specs.Prelude.{ℕ, ◌*◌, ◌<◌, ◌≤◌, List, ◌≡◌, length, get_or, take, drop}
use Rattle.definitions.specs.Sums.{largest, over, blocks}
use Rattle.definitions.specs.File.{with_time}
use Rattle.definitions.specs.Chain.{Model, model_of, at_time, jump_millionths}
use Rattle.definitions.specs.Rules.{Answer, accepted, refused, block_size, series_rows, first_held}
use Rattle.definitions.specs.Level.{last_level}
use Rattle.definitions.specs.Moment.{cell, model_level, means_to, run_to, outcome, cells_after}
use Rattle.definitions.specs.Promise.{Promise}

-- the model of the file s at time k of a list, counted from 0
abbrev pub model_at : List ℕ → List ℕ → ℕ → Model
model_at s times k = at_time (model_of s) (get_or times k 0)

-- its level
unfoldable pub level_at : List ℕ → List ℕ → ℕ → ℕ
level_at s times k = model_level (model_at s times k)

-- the row means of all times: the vectors depend on no time, so they are those of the largest level
abbrev pub means_of_all : List ℕ → List ℕ → ℕ
means_of_all s times = means_to (model_of s) (largest (length times) (level_at s times))

-- what a call answers of the file s and a list of times, lent with a number of level cells and of block cells: the first row that holds, or the number of
-- row means
unfoldable pub series_outcome : List ℕ → List ℕ → ℕ → ℕ → Answer ℕ
series_outcome s times levels cells = first_held (series_rows s times levels cells) (means_of_all s times)

-- document 02's values for each answer: all level cells after the call, from those before it
unfoldable pub levels_after : Answer ℕ → List ℕ → List ℕ → List ℕ → List ℕ
levels_after (accepted n) s times levels = over (length times) (level_at s times) levels
levels_after (refused k) s times levels = levels

-- and all block cells: block k is that of time k
unfoldable pub blocks_after : Answer ℕ → List ℕ → List ℕ → List ℕ → List ℕ
blocks_after (accepted n) s times cells = blocks (block_size s) (length times) (λ k. cell (model_at s times k) (level_at s times k)) cells
blocks_after (refused k) s times cells = cells

-- block k of the cells
abbrev pub block : List ℕ → List ℕ → ℕ → List ℕ
block s cells k = take (block_size s) (drop (k * block_size s) cells)

-- level N and the block after are those of a run of the file s alone, lent the block before
pub record IsRun (s : List ℕ) (N : ℕ) (before after : List ℕ) : Type 0 where
  pub same_level : outcome s (length before) ≡ accepted (run_to (model_of s) N)
  pub same_block : cells_after (outcome s (length before)) s before ≡ after

-- "each block and level equals a run of the file with that time alone": of an answer, for every time
abbrev pub AreRuns : Answer ℕ → List ℕ → List ℕ → List ℕ → List ℕ → List ℕ → Type 0
AreRuns (accepted n) s times levels before after =
    (k : ℕ) → k < length times → IsRun (with_time s (get_or times k 0)) (get_or levels k 0) (block s before k) (block s after k)
AreRuns (refused k) s times levels before after = Unit {0}

-- demand 3 of an answer: for every time, the file with that time, its level and its block
abbrev pub SeriesPromised : Answer ℕ → List ℕ → List ℕ → List ℕ → List ℕ → Type 0
SeriesPromised (accepted n) s times levels cells =
    (k : ℕ) → k < length times → Promise (with_time s (get_or times k 0)) (get_or levels k 0) (block s cells k)
SeriesPromised (refused k) s times levels cells = Unit {0}

-- of an answer: every level is at most 2 × m + 51, with the m of its time (document 02, S-8)
abbrev pub LevelsBounded : Answer ℕ → List ℕ → List ℕ → List ℕ → Type 0
LevelsBounded (accepted n) s times levels = (k : ℕ) → k < length times → get_or levels k 0 ≤ last_level (jump_millionths (model_at s times k))
LevelsBounded (refused k) s times levels = Unit {0}
