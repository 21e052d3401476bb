-- "Hand-checked files": the ten starred entries, as one list and one statement over it, B's moments being those of document 02, S-1.
-- Beside them, and apart from the ten, the average of B, the places "Where hand solutions go wrong", the last quotient's rounding, B with
-- lists of times (document 02, S-3), what divisions leave (S-4), and how many row means are taken (S-8).
use Rattle.std.specs.Prelude.{ℕ, ◌+◌, ◌<◌, List, [], ◌∷◌, ◌++◌, ◌≡◌, refl, length, set, replicate, None, Some}
use Rattle.std.proofs.Common.{arith, lit<}
use Rattle.definitions.specs.declared.Rests.{Rests}
use Rattle.definitions.specs.Sums.{sum, largest, any_above, firsts, over, blocks, pick}
use Rattle.definitions.specs.Bytes.{big, bytes_of}
use Rattle.definitions.specs.File.{with_time, distributions}
use Rattle.definitions.specs.Chain.{Model, model_of, Chain, jump_rate, row_sum, uniform_rate, c, max_reward, jump_millionths, chain_of}
use Rattle.definitions.specs.Rules.{accepted, refused, framing, quantities, falls_up_to, listing, jumps, room, rows, series_rows, first_held, judgement, series_judgement}
use Rattle.definitions.specs.Vectors.{ONE, row_mean, reward_share, mix, next_entry, first_vectors, next_vectors, U, row_means}
use Rattle.definitions.specs.Weights.{mode, rightward, leftward, weight, weight_sum}
use Rattle.definitions.specs.Level.{tail_bound, allowance, IsLevel, passes?, first_from, level, last_level}
use Rattle.definitions.specs.Moment.{term, weighted, nearest, last_quotient, weighted_mean, moment, figure_of, cell, model_level, run_to, outcome, cells_after, count_after}
use Rattle.definitions.specs.Series.{level_at, series_outcome, levels_after, blocks_after}
use Rattle.definitions.specs.Remainders.{mean_of, share_of, rests_at, rests_of, remainders_of, number_after, WorkedOut}
use Rattle.definitions.specs.Fraction.{Same, ratio, total, power}
use Rattle.definitions.specs.Average.{exact_mean, exact_share, exact_mix, exact_first, exact_next, exact_u, factorial, exact_weight, average_of, average}
use Rattle.definitions.specs.Sheet.{digit, digits, places, decimal, figure, label, figure_line, figure_lines, level_line, sheet_of, lent_cells, sheet, printed_sheet}

-- file A
abbrev pub file_a : List ℕ
file_a = 0x00 ∷ 0x0F ∷ 0x01 ∷ 0x01 ∷ 0x01 ∷ 0x00 ∷ 0x00 ∷ 0x27 ∷ 0x10 ∷ 0x00 ∷ 0x00 ∷ 0x00 ∷ 0x01 ∷ 0x00 ∷ 0x00 ∷ 0x00 ∷ 0x05 ∷ []

-- file B
abbrev pub file_b : List ℕ
file_b =
    0x00 ∷ 0x1B ∷ 0x01 ∷ 0x02 ∷ 0x02 ∷ 0x05 ∷ 0xF5 ∷ 0xE1 ∷ 0x00 ∷ 0x00 ∷ 0x00 ∷ 0x00 ∷ 0x01 ∷ 0x00 ∷ 0x00 ∷ 0x00
    ∷ 0x01 ∷ 0x00 ∷ 0x00 ∷ 0x00 ∷ 0x00 ∷ 0x00 ∷ 0x0F ∷ 0x42 ∷ 0x40 ∷ 0x00 ∷ 0x0F ∷ 0x42 ∷ 0x40 ∷ []

abbrev pub model_b : Model
model_b = model_of file_b

abbrev pub chain_b : Chain
chain_b = chain_of model_b

-- B's X and ε
abbrev pub XB : ℕ
XB = jump_millionths model_b

abbrev pub εB : ℕ
εB = model_b.tolerance

-- an entry: a file with its level and all its moments; a file with the row that stops it; numbers of the paper beside those of the definitions
pub data Entry : Type 0 where
  calculated : List ℕ → ℕ → List ℕ → Entry
  stopped : List ℕ → ℕ → Entry
  numbers : List ℕ → List ℕ → Entry

-- what an entry says of the definitions
abbrev pub Holds : Entry → Type 0
Holds (calculated s N moments) =
    (outcome s (length moments) ≡ accepted (run_to (model_of s) N)) × (cells_after (accepted (run_to (model_of s) N)) s (replicate (length moments) 0) ≡ moments)
Holds (stopped s k) = judgement s lent_cells ≡ refused k
Holds (numbers paper ours) = ours ≡ paper

abbrev pub AllHold : List Entry → Type 0
AllHold [] = Unit {0}
AllHold (e ∷ rest) = Holds e × AllHold rest

-- the ten starred entries, in the paper's order
abbrev pub starred : List Entry
starred =
    calculated file_a 1 (ONE ∷ [])
    ∷ calculated file_b 3 (718750000000 ∷ 612500000000 ∷ 281250000000 ∷ 175000000000 ∷ [])
    ∷ numbers (1000000000000000 ∷ 1000000000000000 ∷ 500000000000000 ∷ 166666666666666 ∷ []) (firsts 4 (weight XB))
    ∷ numbers (250000000000001 ∷ 250000000000000 ∷ 0 ∷ []) (tail_bound XB 2 ∷ allowance XB εB 2 ∷ pick (passes? XB εB 2) 1 0 ∷ [])
    ∷ numbers (499999999999 ∷ 499999999999 ∷ []) (firsts 2 (U chain_b 3 1))
    ∷ numbers (499999999999 ∷ 166666666666 ∷ []) (firsts 2 (U chain_b 2 2))
    ∷ stopped (set file_b 16 0) 10
    ∷ stopped (set (set file_b 2 9) 3 0) 3
    ∷ stopped (set (set file_b 11 1) 12 1) 12
    ∷ stopped (set file_b 8 1) 7
    ∷ []

pub hand_checked : AllHold starred
unfolding sum largest any_above firsts over big distributions jump_rate row_sum uniform_rate c max_reward jump_millionths framing quantities jumps room rows first_held judgement row_mean reward_share mix next_entry first_vectors next_vectors U mode rightward leftward weight weight_sum tail_bound allowance passes? first_from level term weighted nearest last_quotient weighted_mean moment figure_of cell model_level outcome cells_after
hand_checked = ((refl, refl), ((refl, refl), (refl, (refl, (refl, (refl, (refl, (refl, (refl, (refl, tt))))))))))

-- B's F is above 0
pub rewarded_b : 0 < max_reward model_b
unfolding largest max_reward big distributions
rewarded_b = lit< tt

-- the average of B for r = 1 and L = 3: 23/32 at state 1 and 9/32 at state 2
pub averages_b : Same (average model_b rewarded_b 3 1 0) (ratio 23 32 (lit< tt)) × Same (average model_b rewarded_b 3 1 1) (ratio 9 32 (lit< tt))
unfolding sum largest big distributions jump_rate row_sum uniform_rate c max_reward jump_millionths total power exact_mean exact_share exact_mix exact_first exact_next exact_u factorial exact_weight average_of average
averages_b = (record { cross = refl }, record { cross = refl })

-- "Where hand solutions go wrong": the right values, U(1,1) at state 2 and U(1,2) at state 1, and that the wrong ones are not theirs
pub right_values : (U chain_b 1 1 1 ≡ 500000000000) × (U chain_b 1 2 0 ≡ 333333333333)
unfolding sum largest big distributions jump_rate row_sum uniform_rate c max_reward row_mean reward_share mix next_entry first_vectors next_vectors U
right_values = (refl, refl)

-- the last quotient's rounding: quarters and thirds to the nearest, a half going up. A term of A goes down, however little it lacks.
pub quarters : firsts 9 (λ a. nearest a 4) ≡ 0 ∷ 0 ∷ 1 ∷ 1 ∷ 1 ∷ 1 ∷ 2 ∷ 2 ∷ 2 ∷ []
unfolding firsts nearest
quarters = refl

pub thirds : firsts 7 (λ a. nearest a 3) ≡ 0 ∷ 0 ∷ 1 ∷ 1 ∷ 1 ∷ 2 ∷ 2 ∷ []
unfolding firsts nearest
thirds = refl

pub terms_down : firsts 4 (λ w. term w 999999999999) ≡ 0 ∷ 0 ∷ 1 ∷ 2 ∷ []
unfolding firsts term
terms_down = refl

-- B's printed sheet, with the figures of document 02, S-1
abbrev pub sheet_b : List ℕ
sheet_b =
    108 ∷ 101 ∷ 118 ∷ 101 ∷ 108 ∷ 32 ∷ 51 ∷ 10
    ∷ 49 ∷ 32 ∷ 49 ∷ 32 ∷ 48 ∷ 46 ∷ 55 ∷ 49 ∷ 56 ∷ 55 ∷ 53 ∷ 48 ∷ 48 ∷ 48 ∷ 48 ∷ 48 ∷ 48 ∷ 48 ∷ 10
    ∷ 49 ∷ 32 ∷ 50 ∷ 32 ∷ 48 ∷ 46 ∷ 54 ∷ 49 ∷ 50 ∷ 53 ∷ 48 ∷ 48 ∷ 48 ∷ 48 ∷ 48 ∷ 48 ∷ 48 ∷ 48 ∷ 10
    ∷ 50 ∷ 32 ∷ 49 ∷ 32 ∷ 48 ∷ 46 ∷ 50 ∷ 56 ∷ 49 ∷ 50 ∷ 53 ∷ 48 ∷ 48 ∷ 48 ∷ 48 ∷ 48 ∷ 48 ∷ 48 ∷ 10
    ∷ 50 ∷ 32 ∷ 50 ∷ 32 ∷ 48 ∷ 46 ∷ 49 ∷ 55 ∷ 53 ∷ 48 ∷ 48 ∷ 48 ∷ 48 ∷ 48 ∷ 48 ∷ 48 ∷ 48 ∷ 48 ∷ 10
    ∷ []

pub sheet_of_B : printed_sheet file_b ≡ sheet_b
unfolding sum largest any_above firsts over big distributions jump_rate row_sum uniform_rate c max_reward jump_millionths framing quantities jumps room rows first_held judgement row_mean reward_share mix next_entry first_vectors next_vectors U mode rightward leftward weight weight_sum tail_bound allowance passes? first_from level term weighted nearest last_quotient weighted_mean moment figure_of cell model_level outcome cells_after digit digits places decimal figure label figure_line figure_lines level_line sheet_of sheet printed_sheet
sheet_of_B = refl

-- B with the times 1 and 2: a level and a block for each, the first those of B itself; what is lent past them stays
pub series_of_B :
    (series_outcome file_b (1 ∷ 2 ∷ []) 3 9 ≡ accepted 16)
    × (levels_after (accepted 16) file_b (1 ∷ 2 ∷ []) (replicate 3 7) ≡ 3 ∷ 4 ∷ 7 ∷ [])
    × (blocks_after (accepted 16) file_b (1 ∷ 2 ∷ []) (replicate 9 7) ≡ 718750000000 ∷ 612500000000 ∷ 281250000000 ∷ 175000000000 ∷ 628571428571 ∷ 476190476190 ∷ 371428571428 ∷ 219047619047 ∷ 7 ∷ [])
unfolding sum largest any_above firsts over blocks big distributions jump_rate row_sum uniform_rate c max_reward jump_millionths framing quantities falls_up_to listing jumps room series_rows first_held row_mean reward_share mix next_entry first_vectors next_vectors U row_means mode rightward leftward weight weight_sum tail_bound allowance passes? first_from level term weighted nearest last_quotient weighted_mean moment figure_of cell model_level level_at series_outcome levels_after blocks_after
series_of_B = (refl, refl, refl)

-- how many row means a run takes: A 1 × 1 × 1, B 3 × 2 × 2. A number that is lent for the count holds it after an acceptance, and stays after a refusal.
pub counted :
    (outcome file_a 1 ≡ accepted (record { level = 1; means = 1 }))
    × (outcome file_b 4 ≡ accepted (record { level = 3; means = 12 }))
    × (count_after (accepted 12) 7 ≡ 12)
    × (count_after (refused 12) 7 ≡ 7)
unfolding sum largest any_above big distributions jump_rate row_sum uniform_rate jump_millionths framing quantities jumps room rows first_held row_means mode rightward leftward weight weight_sum tail_bound allowance passes? first_from level model_level outcome
counted = (refl, refl, refl, refl)

-- N, M and R each count once
pub counts_apart : firsts 3 (λ k. row_means (5 + k) 3 2) ++ firsts 3 (λ k. row_means 5 (3 + k) 2) ++ firsts 3 (λ k. row_means 5 3 (2 + k)) ≡ 30 ∷ 36 ∷ 42 ∷ 30 ∷ 40 ∷ 50 ∷ 30 ∷ 45 ∷ 60 ∷ []
unfolding firsts row_means
counts_apart = refl

-- the bound of the level, from q alone: 53 for B, q being 1, and still where q is nearly 2
pub bounds : (last_level XB ≡ 53) × (last_level 1999999 ≡ 53) × (last_level 2000000 ≡ 55) × (last_level 256000000 ≡ 563) × (last_level 999999 ≡ 51)
unfolding sum largest big distributions jump_rate row_sum uniform_rate jump_millionths mode
bounds = (refl, refl, refl, refl, refl)

-- "N is the least n" that passes: 2 does not pass, and 4 is not the least, as 3 passes
pub not_the_level : (IsLevel XB εB 2 → ⊥) × (IsLevel XB εB 4 → ⊥)
unfolding sum largest big distributions jump_rate row_sum uniform_rate jump_millionths mode rightward leftward weight weight_sum tail_bound allowance
not_the_level = (λ h. omega (arith, h.passes.small), λ h. omega (arith, h.least 3 (record { past = omega arith; small = omega arith })))

-- B with the time 4,294,901,244, its bytes FF FE FD FC
pub time_in_B : with_time file_b 0xFFFEFDFC ≡ set (set (set (set file_b 9 0xFF) 10 0xFE) 11 0xFD) 12 0xFC
unfolding bytes_of with_time
time_in_B = refl

-- what stops a list: a file, its times, the level cells and the block cells that are lent, and the first row that holds
pub record Stopped : Type 0 where
  pub file : List ℕ
  pub times : List ℕ
  pub levels : ℕ
  pub cells : ℕ
  pub row : ℕ

abbrev pub AllStopped : List Stopped → Type 0
AllStopped [] = Unit {0}
AllStopped (e ∷ rest) = (series_judgement e.file e.times e.levels e.cells ≡ refused e.row) × AllStopped rest

-- row by row; most break a later row too
abbrev pub stopped_lists : List Stopped
stopped_lists =
    record { file = set file_b 8 1; times = 0 ∷ []; levels = 0; cells = 0; row = 7 }
    ∷ record { file = set file_b 12 0; times = 1 ∷ 2 ∷ []; levels = 2; cells = 8; row = 8 }
    ∷ record { file = file_b; times = 0 ∷ replicate 8 1; levels = 0; cells = 0; row = 8 }
    ∷ record { file = set file_b 16 0; times = []; levels = 0; cells = 0; row = 10 }
    ∷ record { file = set (set (set file_b 22 0x98) 23 0x96) 24 0x81; times = replicate 9 1; levels = 0; cells = 0; row = 11 }
    ∷ record { file = file_b; times = []; levels = 0; cells = 0; row = 14 }
    ∷ record { file = file_b; times = 9 ∷ 8 ∷ 7 ∷ 6 ∷ 5 ∷ 4 ∷ 3 ∷ 2 ∷ 257 ∷ []; levels = 0; cells = 0; row = 14 }
    ∷ record { file = file_b; times = 257 ∷ 257 ∷ []; levels = 0; cells = 0; row = 15 }
    ∷ record { file = file_b; times = 1 ∷ 3 ∷ 2 ∷ []; levels = 3; cells = 12; row = 15 }
    ∷ record { file = file_b; times = 3 ∷ 2 ∷ 5 ∷ []; levels = 3; cells = 12; row = 15 }
    ∷ record { file = file_b; times = 1 ∷ 257 ∷ []; levels = 0; cells = 0; row = 12 }
    ∷ record { file = file_b; times = 1 ∷ 2 ∷ 257 ∷ []; levels = 3; cells = 12; row = 12 }
    ∷ record { file = file_b; times = 1 ∷ 256 ∷ []; levels = 2; cells = 7; row = 13 }
    ∷ record { file = file_b; times = 1 ∷ 256 ∷ []; levels = 1; cells = 8; row = 13 }
    ∷ []

pub lists_stopped : AllStopped stopped_lists
unfolding sum largest any_above big distributions jump_rate row_sum uniform_rate framing quantities falls_up_to listing jumps room series_rows first_held series_judgement
lists_stopped = (refl, (refl, (refl, (refl, (refl, (refl, (refl, (refl, (refl, (refl, (refl, (refl, (refl, (refl, tt))))))))))))))

-- eight times up to the latest are accepted, with just as many levels and cells
pub eight_times : series_judgement file_b (1 ∷ 2 ∷ 3 ∷ 4 ∷ 5 ∷ 6 ∷ 7 ∷ 256 ∷ []) 8 32 ≡ accepted tt
unfolding sum largest any_above big distributions jump_rate row_sum uniform_rate framing quantities falls_up_to listing jumps room series_rows first_held series_judgement
eight_times = refl

-- a refused list changes no level and no cell
pub stopped_untouched : (levels_after (refused 12) file_b (1 ∷ 257 ∷ []) (replicate 3 7) ≡ replicate 3 7) × (blocks_after (refused 12) file_b (1 ∷ 257 ∷ []) (replicate 9 7) ≡ replicate 9 7)
unfolding firsts over blocks levels_after blocks_after
stopped_untouched = (refl, refl)

-- the file's own time is not judged at 12: B with 257 hours is accepted with the time 1, which calculate refuses
pub own_time_unused : (series_judgement (set (set file_b 11 1) 12 1) (1 ∷ []) 1 4 ≡ accepted tt) × (judgement (set (set file_b 11 1) 12 1) 4 ≡ refused 12)
unfolding sum largest any_above big distributions jump_rate row_sum uniform_rate framing quantities falls_up_to listing jumps room rows series_rows first_held judgement series_judgement
own_time_unused = (refl, refl)

-- B with the rewards 9 and 4 and the second rate 999,999: E is 1,000,000, F is 9, and the level is 3
abbrev pub uneven_b : List ℕ
uneven_b = set (set (set file_b 16 9) 20 4) 28 0x3F

abbrev pub uneven_chain : Chain
uneven_chain = chain_of (model_of uneven_b)

-- at state 2, counted from 1, each division of U(3,2) leaves something, and 3 is the level:
-- 999,999 × 681069691357 + 1 × 413580246912 is 681069423867 × 1,000,000 and 555,555; 4 × 722221944443 is 320987530863 × 9 and 5;
-- 3 × 681069423867 + 2 × 320987530863 is 537036666665 × 5 and 2
pub uneven_rests : remainders_of uneven_b 2 3 2 ≡ accepted (Some (record { mean = 555555; share = 5; mix = 2 }))
unfolding sum largest any_above big distributions jump_rate row_sum uniform_rate c max_reward jump_millionths framing quantities jumps first_held row_mean reward_share mix next_entry first_vectors next_vectors U mode rightward leftward weight weight_sum tail_bound allowance passes? first_from level model_level rests_at rests_of remainders_of
uneven_rests = refl

pub uneven_quotients : (mean_of uneven_chain 3 2 1 ≡ 681069423867) × (share_of uneven_chain 3 2 1 ≡ 320987530863) × (U uneven_chain 3 2 1 ≡ 537036666665)
unfolding sum largest big distributions jump_rate row_sum uniform_rate c max_reward row_mean reward_share mix next_entry first_vectors next_vectors U
uneven_quotients = (refl, refl, refl)

-- no other remainder gives its dividend back with that quotient, and each is below its divisor
pub uneven_whole : (x : Rests) → WorkedOut (accepted (Some x)) uneven_b 2 3 2 → (x.mean ≡ 555555) × (x.share ≡ 5) × (x.mix ≡ 2)
unfolding sum largest big distributions jump_rate row_sum uniform_rate c max_reward row_mean reward_share mix next_entry first_vectors next_vectors U
uneven_whole x h = (omega (arith, h.mean.whole), omega (arith, h.share.whole), omega (arith, h.mix.whole))

pub uneven_below : (x : Rests) → WorkedOut (accepted (Some x)) uneven_b 2 3 2 → (x.mean < 1000000) × (x.share < 9) × (x.mix < 5)
unfolding sum largest big distributions jump_rate row_sum uniform_rate max_reward
uneven_below x h = (omega (arith, h.mean.rest), omega (arith, h.share.rest), omega (arith, h.mix.rest))

-- what is asked of a file: a state, n and r
pub record Asked : Type 0 where
  pub file : List ℕ
  pub state : ℕ
  pub jumps : ℕ
  pub moment : ℕ

abbrev pub NoneOf : List Asked → Type 0
NoneOf [] = Unit {0}
NoneOf (a ∷ rest) = (remainders_of a.file a.state a.jumps a.moment ≡ accepted None) × NoneOf rest

-- none past each limit, B's level being 3, and at 0
abbrev pub asked_outside : List Asked
asked_outside =
    record { file = file_b; state = 0; jumps = 1; moment = 1 }
    ∷ record { file = file_b; state = 3; jumps = 1; moment = 1 }
    ∷ record { file = file_b; state = 0xFFFFFFFFFFFFFFFF; jumps = 1; moment = 1 }
    ∷ record { file = file_b; state = 1; jumps = 0; moment = 1 }
    ∷ record { file = file_b; state = 1; jumps = 4; moment = 1 }
    ∷ record { file = file_b; state = 1; jumps = 0x100000001; moment = 1 }
    ∷ record { file = file_b; state = 1; jumps = 1; moment = 0 }
    ∷ record { file = file_b; state = 1; jumps = 1; moment = 3 }
    ∷ record { file = uneven_b; state = 2; jumps = 4; moment = 2 }
    ∷ []

pub outside_none : NoneOf asked_outside
unfolding sum largest any_above big distributions jump_rate row_sum uniform_rate c max_reward jump_millionths framing quantities jumps first_held row_mean reward_share mix next_entry first_vectors next_vectors U mode rightward leftward weight weight_sum tail_bound allowance passes? first_from level model_level rests_at rests_of remainders_of
outside_none = (refl, (refl, (refl, (refl, (refl, (refl, (refl, (refl, (refl, tt)))))))))

-- a file's refusal comes before all else
pub refusals_first : (remainders_of (set file_b 2 9) 0 0 0 ≡ refused 3) × (remainders_of (set file_b 16 0) 3 4 3 ≡ refused 10) × (remainders_of (set (set file_b 11 1) 12 1) 1 1 1 ≡ refused 12)
unfolding sum largest any_above big distributions jump_rate row_sum uniform_rate framing quantities jumps first_held remainders_of
refusals_first = (refl, refl, refl)

-- remainders that are given are written; else the numbers stay
pub numbers_after : (number_after (accepted (Some (record { mean = 5; share = 2; mix = 1 }))) (λ x. x.share) 7 ≡ 2) × (number_after (accepted None) (λ x. x.share) 7 ≡ 7) × (number_after (refused 3) (λ x. x.share) 7 ≡ 7)
numbers_after = (refl, refl, refl)
