-- Document 02, S-9, "Higher moments may not rise": what is promised of the order of the figures that a call leaves, and of those of the same call for the file
-- with one reward rate raised.
use Rattle.std.specs.Prelude.{ℕ, ◌+◌, ◌≤◌, ◌<◌, List, ◌≡◌, length, get_or}
use Rattle.definitions.specs.declared.Run.{Run}
use Rattle.definitions.specs.File.{state_count, reward_field, with_reward}
use Rattle.definitions.specs.Chain.{Model, model_of, at_reward, max_reward}
use Rattle.definitions.specs.Rules.{Answer, accepted, refused}
use Rattle.definitions.specs.Moment.{moment, start_figure, cell_of, model_level, outcome, cells_after}
use Rattle.definitions.specs.Series.{block, series_outcome, levels_after, blocks_after}

-- in the rows of a block, one for each state and one for the starting distribution where there is one, the figure for r + 1 is at most that for r
abbrev pub NoRise : Model → List ℕ → Type 0
NoRise m cells =
    (i r : ℕ) → i < m.states + m.distributions → 1 ≤ r → r < m.highest → get_or cells (cell_of m i (r + 1)) 0 ≤ get_or cells (cell_of m i r) 0

-- of an answer: its block has no rise
abbrev pub NoneRises : Answer Run → List ℕ → List ℕ → Type 0
NoneRises (accepted run) s cells = NoRise (model_of s) cells
NoneRises (refused k) s cells = Unit {0}

-- of an answer for a list of times: no block has one
abbrev pub NoBlockRises : Answer ℕ → List ℕ → List ℕ → List ℕ → Type 0
NoBlockRises (accepted n) s times cells = (k : ℕ) → k < length times → NoRise (model_of s) (block s cells k)
NoBlockRises (refused k) s times cells = Unit {0}

-- the model m with the reward rate x for state i: the level is the same, and no moment and no start figure is lower, whatever the level
pub record NoLowerFigures (m : Model) (i x : ℕ) : Type 0 where
  pub same_level : model_level (at_reward m i x) ≡ model_level m
  pub moments : (N r j : ℕ) → j < m.states → moment m N r j ≤ moment (at_reward m i x) N r j
  pub starts : (N r : ℕ) → start_figure m N r ≤ start_figure (at_reward m i x) N r

-- x is a reward rate for state i of the file s: from its own to the largest of the file
pub record Raises (s : List ℕ) (i x : ℕ) : Type 0 where
  pub state : i < state_count s
  pub from : reward_field s i ≤ x
  pub to : x ≤ max_reward (model_of s)

-- a call for the file t, lent the cells before, answers the run, and leaves no cell below that of after
pub record NoLower (t : List ℕ) (run : Run) (before after : List ℕ) : Type 0 where
  pub same_run : outcome t (length before) ≡ accepted run
  pub no_lower : (k : ℕ) → get_or after k 0 ≤ get_or (cells_after (accepted run) t before) k 0

-- of an answer: with one reward rate raised the call answers the same run, and leaves no cell lower
abbrev pub NoneLowered : Answer Run → List ℕ → List ℕ → List ℕ → Type 0
NoneLowered (accepted run) s before after = (i x : ℕ) → Raises s i x → NoLower (with_reward s i x) run before after
NoneLowered (refused k) s before after = Unit {0}

-- a call for the file t and the list of times, lent the cells before, answers the count n, gives the levels after, and leaves no cell below that of after
pub record NoLowerBlocks (t times : List ℕ) (n : ℕ) (levels new_levels before after : List ℕ) : Type 0 where
  pub same_count : series_outcome t times (length levels) (length before) ≡ accepted n
  pub same_levels : levels_after (accepted n) t times levels ≡ new_levels
  pub no_lower : (k : ℕ) → get_or after k 0 ≤ get_or (blocks_after (accepted n) t times before) k 0

-- of an answer for a list of times: with one reward rate raised the call answers the same count and levels, and leaves no cell lower
abbrev pub NoBlockLowered : Answer ℕ → List ℕ → List ℕ → List ℕ → List ℕ → List ℕ → List ℕ → Type 0
NoBlockLowered (accepted n) s times levels new_levels before after = (i x : ℕ) → Raises s i x → NoLowerBlocks (with_reward s i x) times n levels new_levels before after
NoBlockLowered (refused k) s times levels new_levels before after = Unit {0}
