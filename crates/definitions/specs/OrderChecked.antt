-- Document 02, S-9, checked by hand: rows that fall, that stay level and that rise; one reward rate in a file; and that both statements are false if they say
-- more: "strictly below", and a reward rate raised past the largest.
use Rattle.std.specs.Prelude.{ℕ, zero, suc, ◌+◌, ◌≤◌, ◌<◌, List, [], ◌∷◌, ◌++◌, ◌≡◌, refl, get_or, set, replicate}
use Rattle.std.proofs.Common.{arith, ap}
use Rattle.std.proofs.Math.Decide.{ℕ_discrete}
use Rattle.definitions.specs.declared.Run.{Run}
use Rattle.definitions.specs.Sums.{sum, largest, any_above, firsts, over, blocks}
use Rattle.definitions.specs.Bytes.{big, bytes_of}
use Rattle.definitions.specs.File.{distributions, reward_field, with_reward}
use Rattle.definitions.specs.Chain.{Model, model_of, at_reward, jump_rate, row_sum, uniform_rate, c, max_reward, jump_millionths}
use Rattle.definitions.specs.Rules.{Answer, accepted, saying, framing, quantities, falls_up_to, listing, jumps, room, rows, series_rows, first_held}
use Rattle.definitions.specs.Vectors.{ONE, row_mean, reward_share, mix, next_entry, first_vectors, next_vectors, U, row_means}
use Rattle.definitions.specs.Weights.{mode, rightward, leftward, weight, weight_sum}
use Rattle.definitions.specs.Level.{tail_bound, allowance, passes?, first_from, level}
use Rattle.definitions.specs.Moment.{term, weighted, nearest, last_quotient, weighted_mean, moment, start_mean, start_figure, cell_of, figure_of, cell, model_level, outcome, cells_after, count_after}
use Rattle.definitions.specs.Series.{level_at, series_outcome, levels_after, blocks_after}
use Rattle.definitions.specs.Order.{NoRise, NoneRises, NoBlockRises, NoLowerFigures, Raises, NoLower, NoneLowered, NoLowerBlocks, NoBlockLowered}
use Rattle.definitions.specs.HandChecked.{file_b, model_b}
use Rattle.definitions.specs.StartChecked.{start_b}

-- B's cells: each row falls
pub falling_B : NoRise model_b (718750000000 ∷ 612500000000 ∷ 281250000000 ∷ 175000000000 ∷ [])
unfolding cell_of distributions
falling_B i r l low high =
    let one : r ≡ 1 = omega arith in
    elim (ℕ_discrete i 0) [
      | yes first ↦ rw (first, one) (omega arith)
      | no other ↦ let second : i ≡ 1 = omega (arith, other) in rw (second, one) (omega arith)
    ]

-- the run of B, whatever its reward rates
abbrev pub run_b : Run
run_b = record { level = 3; means = 12 }

-- a row that rises is found at either state, in the start's row, in an answer's cells, and in the second block of a list of times
pub rising_first : NoRise model_b (718750000000 ∷ 718750000001 ∷ 281250000000 ∷ 175000000000 ∷ []) → ⊥
unfolding cell_of distributions
rising_first none = omega (arith, none 0 1 (omega arith) (omega arith) (omega arith))

pub rising_last : NoRise model_b (718750000000 ∷ 612500000000 ∷ 281250000000 ∷ 281250000001 ∷ []) → ⊥
unfolding cell_of distributions
rising_last none = omega (arith, none 1 1 (omega arith) (omega arith) (omega arith))

pub rising_start : NoRise (model_of start_b) (718750000000 ∷ 612500000000 ∷ 281250000000 ∷ 175000000000 ∷ 390625000000 ∷ 390625000001 ∷ []) → ⊥
unfolding cell_of distributions
rising_start none = omega (arith, none 2 1 (omega arith) (omega arith) (omega arith))

pub rising_answer : NoneRises (accepted run_b) file_b (718750000000 ∷ 718750000001 ∷ 281250000000 ∷ 175000000000 ∷ []) → ⊥
unfolding cell_of distributions
rising_answer none = omega (arith, none 0 1 (omega arith) (omega arith) (omega arith))

pub rising_block :
    NoBlockRises (accepted 16) file_b (1 ∷ 2 ∷ []) (718750000000 ∷ 612500000000 ∷ 281250000000 ∷ 175000000000 ∷ 628571428571 ∷ 628571428572 ∷ 371428571428 ∷ 219047619047 ∷ [])
    → ⊥
unfolding cell_of distributions
rising_block none = omega (arith, none 1 (omega arith) 0 1 (omega arith) (omega arith) (omega arith))

-- B with the reward rate 1 for both states: every moment is 1. The rows do not rise, and the moment for r + 1 is not below that for r: "strictly below" is
-- false.
abbrev pub even_b : List ℕ
even_b = set file_b 20 1

pub even_cells : (outcome even_b 4 ≡ accepted run_b) × (cells_after (accepted run_b) even_b (replicate 4 0) ≡ replicate 4 ONE)
unfolding sum largest any_above firsts over big distributions jump_rate row_sum uniform_rate c max_reward jump_millionths framing quantities jumps room rows first_held row_mean reward_share mix next_entry first_vectors next_vectors U row_means mode rightward leftward weight weight_sum tail_bound allowance passes? first_from level term weighted nearest last_quotient weighted_mean moment figure_of cell model_level outcome cells_after
even_cells = (refl, refl)

pub level_rows : NoRise (model_of even_b) (replicate 4 ONE)
unfolding cell_of distributions
level_rows i r l low high =
    let one : r ≡ 1 = omega arith in
    elim (ℕ_discrete i 0) [
      | yes first ↦ rw (first, one) (omega arith)
      | no other ↦ let second : i ≡ 1 = omega (arith, other) in rw (second, one) (omega arith)
    ]

pub not_strictly : ((i r : ℕ) → i < 2 → 1 ≤ r → r < 2 → get_or (replicate 4 ONE) (cell_of (model_of even_b) i (r + 1)) 0 < get_or (replicate 4 ONE) (cell_of (model_of even_b) i r) 0) → ⊥
unfolding cell_of
not_strictly below = omega (arith, below 0 1 (omega arith) (omega arith) (omega arith))

-- B with the reward rate 4,294,901,244 for its second state, its bytes FF FE FD FC; in version 2 it stands after the weights
pub reward_in_B : with_reward file_b 1 0xFFFEFDFC ≡ set (set (set (set file_b 17 0xFF) 18 0xFE) 19 0xFD) 20 0xFC
unfolding bytes_of distributions with_reward
reward_in_B = refl

pub reward_in_start : with_reward start_b 0 0x00010203 ≡ set (set (set (set start_b 21 0x00) 22 0x01) 23 0x02) 24 0x03
unfolding bytes_of distributions with_reward
reward_in_start = refl

-- a model has the reward rate at that state alone, as the file has
pub reward_at_one : (firsts 2 (at_reward model_b 1 5).reward ≡ 1 ∷ 5 ∷ []) × (firsts 2 (reward_field (with_reward file_b 1 5)) ≡ 1 ∷ 5 ∷ [])
unfolding firsts big bytes_of distributions with_reward
reward_at_one = (refl, refl)

-- the second reward rate of B may be raised from 0 to 1; not past it. The first may not be lowered, and there is no third state.
pub raises_to_largest : Raises file_b 1 0 × Raises file_b 1 1
unfolding largest big distributions max_reward
raises_to_largest = (record { state = omega arith; from = omega arith; to = omega arith }, record { state = omega arith; from = omega arith; to = omega arith })

pub raises_past : Raises file_b 1 2 → ⊥
unfolding largest big distributions max_reward
raises_past h = omega (arith, h.to)

pub raises_down : Raises file_b 0 0 → ⊥
unfolding largest big distributions max_reward
raises_down h = omega (arith, h.from)

pub raises_none : Raises file_b 2 1 → ⊥
raises_none h = omega (arith, h.state)

-- raised to 1, it lowers no cell, and raises all four; what is lent past them is the same
pub raised_B : NoLower (with_reward file_b 1 1) run_b (replicate 5 7) (718750000000 ∷ 612500000000 ∷ 281250000000 ∷ 175000000000 ∷ 7 ∷ [])
unfolding sum largest any_above firsts over big bytes_of distributions with_reward jump_rate row_sum uniform_rate c max_reward jump_millionths framing quantities jumps room rows first_held row_mean reward_share mix next_entry first_vectors next_vectors U row_means mode rightward leftward weight weight_sum tail_bound allowance passes? first_from level term weighted nearest last_quotient weighted_mean moment figure_of cell model_level outcome cells_after
raised_B = record { same_run = refl; no_lower = each }
  where
    each : (k : ℕ) → get_or (718750000000 ∷ 612500000000 ∷ 281250000000 ∷ 175000000000 ∷ 7 ∷ []) k 0 ≤ get_or (replicate 4 ONE ++ 7 ∷ []) k 0
    each zero = omega arith
    each (suc zero) = omega arith
    each (suc (suc zero)) = omega arith
    each (suc (suc (suc zero))) = omega arith
    each (suc (suc (suc (suc zero)))) = omega arith
    each (suc (suc (suc (suc (suc k))))) = omega arith

-- no other run is the same, no other levels of a list of times, and no other count
pub other_run : (after : List ℕ) → NoLower (with_reward file_b 1 1) (record { level = 4; means = 16 }) (replicate 4 0) after → ⊥
unfolding sum largest any_above firsts over big bytes_of distributions with_reward jump_rate row_sum uniform_rate c max_reward jump_millionths framing quantities jumps room rows first_held row_means mode rightward leftward weight weight_sum tail_bound allowance passes? first_from level model_level outcome
other_run after h = omega (arith, ap (λ (a : Answer Run). count_after (saying (λ x. x.level) a) 0) h.same_run)

pub other_levels : (after : List ℕ) → NoLowerBlocks (with_reward file_b 1 1) (1 ∷ 2 ∷ []) 16 (replicate 2 0) (3 ∷ 5 ∷ []) (replicate 8 0) after → ⊥
unfolding sum largest firsts over big bytes_of distributions with_reward jump_rate row_sum uniform_rate jump_millionths mode rightward leftward weight weight_sum tail_bound allowance passes? first_from level model_level level_at levels_after
other_levels after h = omega (arith, ap (λ (l : List ℕ). get_or l 1 0) h.same_levels)

pub other_count : (new_levels after : List ℕ) → NoLowerBlocks (with_reward file_b 1 1) (1 ∷ 2 ∷ []) 12 (replicate 2 0) new_levels (replicate 8 0) after → ⊥
unfolding sum largest any_above firsts over big bytes_of distributions with_reward jump_rate row_sum uniform_rate c max_reward jump_millionths framing quantities falls_up_to listing jumps room series_rows first_held row_means mode rightward leftward weight weight_sum tail_bound allowance passes? first_from level model_level level_at series_outcome
other_count new_levels after h = omega (arith, ap (λ (a : Answer ℕ). count_after a 0) h.same_count)

-- the level of a model is that of the model with the raised rate
pub raised_model : (m : Model) (i x : ℕ) → NoLowerFigures m i x → model_level (at_reward m i x) ≡ model_level m
raised_model m i x h = h.same_level

-- what is said of an answer is said of the file with the raised rate
pub raised_answer : (before after : List ℕ) → NoneLowered (accepted run_b) file_b before after → NoLower (with_reward file_b 1 1) run_b before after
raised_answer before after none = none 1 1 raises_to_largest.1

pub raised_list : (times levels new_levels before after : List ℕ) → NoBlockLowered (accepted 16) file_b times levels new_levels before after → NoLowerBlocks (with_reward file_b 1 1) times 16 levels new_levels before after
raised_list times levels new_levels before after none = none 1 1 raises_to_largest.1

-- with both reward rates 1 every moment is 1, so a last cell above that is one that was lowered: in an answer's block, and in the last of a list
pub lowered_last : NoneLowered (accepted run_b) file_b (replicate 4 0) (718750000000 ∷ 612500000000 ∷ 281250000000 ∷ 1000000000001 ∷ []) → ⊥
unfolding sum largest any_above firsts over big bytes_of distributions with_reward jump_rate row_sum uniform_rate c max_reward jump_millionths row_mean reward_share mix next_entry first_vectors next_vectors U mode rightward leftward weight weight_sum term weighted nearest last_quotient weighted_mean moment figure_of cell cells_after
lowered_last none = omega (arith, (none 1 1 raises_to_largest.1).no_lower 3)

pub lowered_block :
    NoBlockLowered (accepted 16) file_b (1 ∷ 2 ∷ []) (replicate 2 0) (3 ∷ 4 ∷ []) (replicate 8 0) (718750000000 ∷ 612500000000 ∷ 281250000000 ∷ 175000000000 ∷ 628571428571 ∷ 476190476190 ∷ 371428571428 ∷ 1000000000001 ∷ [])
    → ⊥
unfolding blocks sum largest any_above firsts over big bytes_of distributions with_reward jump_rate row_sum uniform_rate c max_reward jump_millionths row_mean reward_share mix next_entry first_vectors next_vectors U mode rightward leftward weight weight_sum term weighted nearest last_quotient weighted_mean moment figure_of cell tail_bound allowance passes? first_from level model_level level_at blocks_after
lowered_block none = omega (arith, (none 1 1 raises_to_largest.1).no_lower 7)

-- raised past the largest, to 2, it lowers the moments of the first state, as F is 2 then: "raising a reward rate lowers no moment" is false without the condition
pub past_B :
    (outcome (with_reward file_b 1 2) 4 ≡ accepted run_b)
    × (cells_after (accepted run_b) (with_reward file_b 1 2) (replicate 4 0) ≡ 640625000000 ∷ 434375000000 ∷ 859375000000 ∷ 762500000000 ∷ [])
unfolding sum largest any_above firsts over big bytes_of distributions with_reward jump_rate row_sum uniform_rate c max_reward jump_millionths framing quantities jumps room rows first_held row_mean reward_share mix next_entry first_vectors next_vectors U row_means mode rightward leftward weight weight_sum tail_bound allowance passes? first_from level term weighted nearest last_quotient weighted_mean moment figure_of cell model_level outcome cells_after
past_B = (refl, refl)

-- the same of a list of times, in its first block
pub past_blocks :
    NoLowerBlocks (with_reward file_b 1 2) (1 ∷ 2 ∷ []) 16 (replicate 2 0) (3 ∷ 4 ∷ []) (replicate 8 0) (718750000000 ∷ 612500000000 ∷ 281250000000 ∷ 175000000000 ∷ 628571428571 ∷ 476190476190 ∷ 371428571428 ∷ 219047619047 ∷ [])
    → ⊥
unfolding sum largest any_above firsts over blocks big bytes_of distributions with_reward jump_rate row_sum uniform_rate c max_reward jump_millionths framing quantities falls_up_to listing jumps room series_rows first_held row_mean reward_share mix next_entry first_vectors next_vectors U row_means mode rightward leftward weight weight_sum tail_bound allowance passes? first_from level term weighted nearest last_quotient weighted_mean moment figure_of cell model_level level_at series_outcome levels_after blocks_after
past_blocks h = omega (arith, h.no_lower 0)

-- and of models: the first moment of state 1, and the start figure where all weight is on it
pub past_model : NoLowerFigures model_b 1 2 → ⊥
unfolding sum largest big distributions jump_rate row_sum uniform_rate c max_reward jump_millionths row_mean reward_share mix next_entry first_vectors next_vectors U mode rightward leftward weight weight_sum term weighted nearest last_quotient weighted_mean moment
past_model h = omega (arith, h.moments 3 1 0 (omega arith))

abbrev pub first_b : List ℕ
first_b = set (set (set (set (set (set start_b 14 0x0F) 15 0x42) 16 0x40) 18 0x00) 19 0x00) 20 0x00

pub past_start : NoLowerFigures (model_of first_b) 1 2 → ⊥
unfolding sum largest big distributions jump_rate row_sum uniform_rate c max_reward jump_millionths row_mean reward_share mix next_entry first_vectors next_vectors U mode rightward leftward weight weight_sum term weighted nearest last_quotient weighted_mean moment start_mean start_figure
past_start h = omega (arith, h.starts 3 1)
