-- Document 02, S-5, checked by hand: B with a starting distribution, what stops such a file, and files moved from one version to the other.
use Rattle.std.specs.Prelude.{ℕ, List, [], ◌∷◌, ◌++◌, ◌≡◌, refl, get_or, set, replicate}
use Rattle.std.proofs.Common.{arith, ap}
use Rattle.definitions.specs.Sums.{sum, largest, any_above, firsts, over, blocks}
use Rattle.definitions.specs.Bytes.{big, bytes_of}
use Rattle.definitions.specs.File.{distributions}
use Rattle.definitions.specs.Chain.{jump_rate, row_sum, uniform_rate, c, max_reward, jump_millionths}
use Rattle.definitions.specs.Rules.{Answer, accepted, refused, framing, quantities, falls_up_to, listing, jumps, room, rows, series_rows, first_held, file_judgement, judgement, series_judgement}
use Rattle.definitions.specs.Vectors.{row_mean, reward_share, mix, next_entry, first_vectors, next_vectors, U, row_means}
use Rattle.definitions.specs.Weights.{mode, rightward, leftward, weight, weight_sum}
use Rattle.definitions.specs.Level.{tail_bound, allowance, passes?, first_from, level}
use Rattle.definitions.specs.Moment.{term, weighted, nearest, last_quotient, weighted_mean, moment, start_mean, start_figure, figure_of, cell, model_level, outcome, cells_after}
use Rattle.definitions.specs.Series.{level_at, series_outcome, levels_after, blocks_after}
use Rattle.definitions.specs.Remainders.{remainders_of}
use Rattle.definitions.specs.Sheet.{digit, digits, places, decimal, figure, label, figure_line, figure_lines, level_line, sheet_of, lent_cells, sheet, printed_sheet}
use Rattle.definitions.specs.Written.{written, file_for, count_of, bytes_after}
use Rattle.definitions.specs.Fields.{numbers_at, words_of, fields_of, headed, file_of}
use Rattle.definitions.specs.Convert.{in_version_2, in_version_1, elsewhere, to_version_2, to_version_1, ThereAndBack}
use Rattle.definitions.specs.HandChecked.{file_a, file_b, sheet_b}

-- B in version 2, with the weights 250,000 and 750,000
abbrev pub start_b : List ℕ
start_b =
    0x00 ∷ 0x23 ∷ 0x02 ∷ 0x02 ∷ 0x02 ∷ 0x05 ∷ 0xF5 ∷ 0xE1 ∷ 0x00 ∷ 0x00 ∷ 0x00 ∷ 0x00 ∷ 0x01 ∷ 0x00 ∷ 0x03 ∷ 0xD0
    ∷ 0x90 ∷ 0x00 ∷ 0x0B ∷ 0x71 ∷ 0xB0 ∷ 0x00 ∷ 0x00 ∷ 0x00 ∷ 0x01 ∷ 0x00 ∷ 0x00 ∷ 0x00 ∷ 0x00 ∷ 0x00 ∷ 0x0F ∷ 0x42
    ∷ 0x40 ∷ 0x00 ∷ 0x0F ∷ 0x42 ∷ 0x40 ∷ []

-- with the times 1 and 2: each block has B's moments for that time, and after them two start figures. At time 2 they are
-- 435714285713.75 and 283333333332.75 ticks, down. What is lent past them stays.
pub series_of_start :
    (series_outcome start_b (1 ∷ 2 ∷ []) 3 13 ≡ accepted 16)
    × (levels_after (accepted 16) start_b (1 ∷ 2 ∷ []) (replicate 3 7) ≡ 3 ∷ 4 ∷ 7 ∷ [])
    × (blocks_after (accepted 16) start_b (1 ∷ 2 ∷ []) (replicate 13 7) ≡ 718750000000 ∷ 612500000000 ∷ 281250000000 ∷ 175000000000 ∷ 390625000000 ∷ 284375000000 ∷ 628571428571 ∷ 476190476190 ∷ 371428571428 ∷ 219047619047 ∷ 435714285713 ∷ 283333333332 ∷ 7 ∷ [])
unfolding sum largest any_above firsts over blocks big distributions jump_rate row_sum uniform_rate c max_reward jump_millionths framing quantities falls_up_to listing jumps room series_rows first_held row_mean reward_share mix next_entry first_vectors next_vectors U row_means mode rightward leftward weight weight_sum tail_bound allowance passes? first_from level term weighted nearest last_quotient weighted_mean moment start_mean start_figure figure_of cell model_level level_at series_outcome levels_after blocks_after
series_of_start = (refl, refl, refl)

-- alone, lent one cell more than it fills
pub cells_of_start :
    (outcome start_b 7 ≡ accepted (record { level = 3; means = 12 }))
    × (cells_after (accepted (record { level = 3; means = 12 })) start_b (replicate 7 7) ≡ 718750000000 ∷ 612500000000 ∷ 281250000000 ∷ 175000000000 ∷ 390625000000 ∷ 284375000000 ∷ 7 ∷ [])
unfolding sum largest any_above firsts over big distributions jump_rate row_sum uniform_rate c max_reward jump_millionths framing quantities jumps room rows first_held row_mean reward_share mix next_entry first_vectors next_vectors U row_means mode rightward leftward weight weight_sum tail_bound allowance passes? first_from level term weighted nearest last_quotient weighted_mean moment start_mean start_figure figure_of cell model_level outcome cells_after
cells_of_start = (refl, refl)

-- its printed sheet: B's, and the lines "start 1 0.390625000000" and "start 2 0.284375000000"
pub sheet_of_start :
    printed_sheet start_b
    ≡ sheet_b
    ++ 115 ∷ 116 ∷ 97 ∷ 114 ∷ 116 ∷ 32 ∷ 49 ∷ 32 ∷ 48 ∷ 46 ∷ 51 ∷ 57 ∷ 48 ∷ 54 ∷ 50 ∷ 53 ∷ 48 ∷ 48 ∷ 48 ∷ 48 ∷ 48 ∷ 48 ∷ 10
    ∷ 115 ∷ 116 ∷ 97 ∷ 114 ∷ 116 ∷ 32 ∷ 50 ∷ 32 ∷ 48 ∷ 46 ∷ 50 ∷ 56 ∷ 52 ∷ 51 ∷ 55 ∷ 53 ∷ 48 ∷ 48 ∷ 48 ∷ 48 ∷ 48 ∷ 48 ∷ 10 ∷ []
unfolding sum largest any_above firsts over big distributions jump_rate row_sum uniform_rate c max_reward jump_millionths framing quantities jumps room rows first_held row_mean reward_share mix next_entry first_vectors next_vectors U mode rightward leftward weight weight_sum tail_bound allowance passes? first_from level term weighted nearest last_quotient weighted_mean moment start_mean start_figure figure_of cell model_level outcome cells_after digit digits places decimal figure label figure_line figure_lines level_line sheet_of sheet printed_sheet
sheet_of_start = refl

-- what stops a file: its bytes, the cells that are lent, and the first row that holds
pub record Stop : Type 0 where
  pub file : List ℕ
  pub cells : ℕ
  pub row : ℕ

abbrev pub AllStop : List Stop → Type 0
AllStop [] = Unit {0}
AllStop (e ∷ rest) = (judgement e.file e.cells ≡ refused e.row) × AllStop rest

-- A with byte 2 = 02; start_b as version 1, 3 and 0; its weights one too few: alone, with the time 0, with a reward above its limit, with all
-- rewards 0; a weight far too large; one cell too few
abbrev pub stops : List Stop
stops =
    record { file = set file_a 2 2; cells = lent_cells; row = 6 }
    ∷ record { file = set start_b 2 1; cells = lent_cells; row = 6 }
    ∷ record { file = set start_b 2 3; cells = lent_cells; row = 3 }
    ∷ record { file = set start_b 2 0; cells = lent_cells; row = 3 }
    ∷ record { file = set start_b 20 0xAF; cells = lent_cells; row = 16 }
    ∷ record { file = set (set start_b 20 0xAF) 12 0; cells = lent_cells; row = 8 }
    ∷ record { file = set (set start_b 20 0xAF) 21 1; cells = 0; row = 16 }
    ∷ record { file = set (set start_b 20 0xAF) 24 0; cells = 0; row = 16 }
    ∷ record { file = set start_b 13 1; cells = lent_cells; row = 16 }
    ∷ record { file = start_b; cells = 5; row = 13 }
    ∷ []

pub all_stop : AllStop stops
unfolding sum largest any_above big distributions jump_rate row_sum uniform_rate framing quantities jumps room rows first_held judgement
all_stop = (refl, (refl, (refl, (refl, (refl, (refl, (refl, (refl, (refl, (refl, tt))))))))))

-- row 16 in the other calls that read a file: before a broken list, and before the question for remainders
pub stops_elsewhere : (series_judgement (set start_b 20 0xAF) [] 0 0 ≡ refused 16) × (remainders_of (set start_b 20 0xAF) 1 1 1 ≡ refused 16)
unfolding sum largest any_above big distributions jump_rate row_sum uniform_rate framing quantities falls_up_to listing jumps room series_rows first_held series_judgement remainders_of
stops_elsewhere = (refl, refl)

-- B moved to version 2: as start_b, with the weights 1,000,000 and 0
abbrev pub moved_b : List ℕ
moved_b =
    0x00 ∷ 0x23 ∷ 0x02 ∷ 0x02 ∷ 0x02 ∷ 0x05 ∷ 0xF5 ∷ 0xE1 ∷ 0x00 ∷ 0x00 ∷ 0x00 ∷ 0x00 ∷ 0x01 ∷ 0x00 ∷ 0x0F ∷ 0x42
    ∷ 0x40 ∷ 0x00 ∷ 0x00 ∷ 0x00 ∷ 0x00 ∷ 0x00 ∷ 0x00 ∷ 0x00 ∷ 0x01 ∷ 0x00 ∷ 0x00 ∷ 0x00 ∷ 0x00 ∷ 0x00 ∷ 0x0F ∷ 0x42
    ∷ 0x40 ∷ 0x00 ∷ 0x0F ∷ 0x42 ∷ 0x40 ∷ []

-- there, lent just enough, and back
pub there_and_back : (to_version_2 file_b 37 ≡ accepted moved_b) × (to_version_1 moved_b 29 ≡ accepted file_b)
unfolding sum largest any_above firsts big bytes_of distributions jump_rate row_sum uniform_rate framing quantities jumps room first_held file_for numbers_at words_of fields_of headed file_of in_version_2 in_version_1 elsewhere to_version_2 to_version_1
there_and_back = (refl, refl)

-- what stops a move there: version 2, a reward above its limit, a byte too few
pub stopped_there : (to_version_2 moved_b 99 ≡ refused 3) × (to_version_2 (set file_b 13 1) 0 ≡ refused 9) × (to_version_2 file_b 36 ≡ refused 13)
unfolding sum largest any_above firsts big bytes_of distributions jump_rate row_sum uniform_rate framing quantities jumps room first_held file_for numbers_at words_of fields_of headed file_of in_version_2 to_version_2
stopped_there = (refl, refl, refl)

-- and back: version 1; a weight on state 2, with E × T above its limit too, and with a byte too few; a byte too few alone
pub stopped_back : (to_version_1 file_b 99 ≡ refused 3) × (to_version_1 (set (set start_b 11 1) 12 1) 99 ≡ refused 12) × (to_version_1 start_b 28 ≡ refused 17) × (to_version_1 moved_b 28 ≡ refused 13)
unfolding sum largest any_above firsts big bytes_of distributions jump_rate row_sum uniform_rate framing quantities jumps room first_held file_for numbers_at words_of fields_of headed file_of in_version_1 elsewhere to_version_1
stopped_back = (refl, refl, refl, refl)

-- the count, and the bytes after a call: those past the file stay, and a refusal writes none
pub bytes_after_lem : (count_of (accepted file_a) ≡ accepted 17) × (bytes_after (accepted (1 ∷ 2 ∷ [])) (replicate 3 7) ≡ 1 ∷ 2 ∷ 7 ∷ []) × (bytes_after (refused 13) (replicate 3 7) ≡ replicate 3 7)
unfolding written
bytes_after_lem = (refl, refl, refl)

-- what is promised of a moved file, there and back, is false of one that is not accepted (time 0), has another level (tolerance 16,113,920), has other moments
-- (the second reward 1), or does not come back (R = 1), lent just enough bytes and lent more

-- the row that an answer names, 0 where it is an acceptance
abbrev pub row_of : {A : Type 0} → Answer A → ℕ
row_of (accepted a) = 0
row_of (refused k) = k

pub moved_unaccepted : (ThereAndBack (accepted (set moved_b 12 0)) file_b to_version_1 → ⊥) × (ThereAndBack (accepted (set file_b 12 0)) moved_b to_version_2 → ⊥)
unfolding sum largest any_above big distributions jump_rate row_sum uniform_rate framing quantities jumps first_held file_judgement
moved_unaccepted = (λ h. omega (arith, ap row_of h.accepts), λ h. omega (arith, ap row_of h.accepts))

pub moved_level : (ThereAndBack (accepted (set moved_b 5 0)) file_b to_version_1 → ⊥) × (ThereAndBack (accepted (set file_b 5 0)) moved_b to_version_2 → ⊥)
unfolding sum largest big distributions jump_rate row_sum uniform_rate jump_millionths mode rightward leftward weight weight_sum tail_bound allowance passes? first_from level model_level
moved_level = (λ h. omega (arith, h.same_level), λ h. omega (arith, h.same_level))

pub moved_moments : (ThereAndBack (accepted (set moved_b 28 1)) file_b to_version_1 → ⊥) × (ThereAndBack (accepted (set file_b 20 1)) moved_b to_version_2 → ⊥)
unfolding sum largest big distributions jump_rate row_sum uniform_rate c max_reward jump_millionths row_mean reward_share mix next_entry first_vectors next_vectors U mode rightward leftward weight weight_sum term weighted nearest last_quotient weighted_mean moment
moved_moments = (λ h. omega (arith, h.same_moments 3 2 1), λ h. omega (arith, h.same_moments 3 2 1))

pub moved_for_good : (ThereAndBack (accepted (set moved_b 4 1)) file_b to_version_1 → ⊥) × (ThereAndBack (accepted (set file_b 4 1)) moved_b to_version_2 → ⊥)
unfolding sum largest any_above firsts big bytes_of distributions jump_rate row_sum uniform_rate framing quantities jumps room first_held written file_for numbers_at words_of fields_of headed file_of in_version_2 in_version_1 elsewhere to_version_2 to_version_1
moved_for_good = (
  λ h. omega (arith, ap (λ (a : Answer (List ℕ)). get_or (bytes_after a []) 4 0) (h.returns 29 (omega arith))),
  λ h. omega (arith, ap (λ (a : Answer (List ℕ)). get_or (bytes_after a []) 4 0) (h.returns 99 (omega arith))),
)
