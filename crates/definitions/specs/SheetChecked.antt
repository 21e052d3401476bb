-- "The printed sheet", checked by hand: that of ten states, how much the program lends and reads, an input that is longer, and what figures denote.
use Rattle.std.specs.Prelude.{ℕ, ◌+◌, ◌*◌, List, [], ◌∷◌, ◌++◌, Bool, ◌≡◌, refl, get_or, replicate}
use Rattle.std.proofs.Common.{arith, ap, lit<}
use Rattle.definitions.specs.Sums.{sum, largest, any_above, firsts, over, pick}
use Rattle.definitions.specs.Bytes.{big}
use Rattle.definitions.specs.File.{distributions}
use Rattle.definitions.specs.Chain.{jump_rate, row_sum, uniform_rate, c, max_reward, jump_millionths}
use Rattle.definitions.specs.Rules.{framing, quantities, jumps, room, rows, first_held}
use Rattle.definitions.specs.Vectors.{ONE, row_mean, reward_share, mix, next_entry, first_vectors, next_vectors, U}
use Rattle.definitions.specs.Weights.{mode, rightward, leftward, weight, weight_sum}
use Rattle.definitions.specs.Level.{tail_bound, allowance, passes?, first_from, level}
use Rattle.definitions.specs.Moment.{term, weighted, nearest, last_quotient, weighted_mean, moment, figure_of, cell, model_level, outcome, cells_after}
use Rattle.definitions.specs.Fraction.{Fraction, ratio, whole}
use Rattle.definitions.specs.Numeral.{all_digits, value_of}
use Rattle.definitions.specs.Sheet.{digit, digits, places, decimal, figure, before_point, after_point, decimal_of, Denotes, label, figure_line, figure_lines, level_line, refused_line, sheet_of, lent_cells, read_limit, sheet, printed_sheet}

-- ten states with the rewards 1 to 10 and no arrow, R = 1, tolerance 10,000 and time 1
abbrev pub file_ten : List ℕ
file_ten =
    0x01 ∷ 0x9B ∷ 0x01 ∷ 0x0A ∷ 0x01 ∷ 0x00 ∷ 0x00 ∷ 0x27 ∷ 0x10 ∷ 0x00 ∷ 0x00 ∷ 0x00 ∷ 0x01
    ∷ 0 ∷ 0 ∷ 0 ∷ 1 ∷ 0 ∷ 0 ∷ 0 ∷ 2 ∷ 0 ∷ 0 ∷ 0 ∷ 3 ∷ 0 ∷ 0 ∷ 0 ∷ 4 ∷ 0 ∷ 0 ∷ 0 ∷ 5
    ∷ 0 ∷ 0 ∷ 0 ∷ 6 ∷ 0 ∷ 0 ∷ 0 ∷ 7 ∷ 0 ∷ 0 ∷ 0 ∷ 8 ∷ 0 ∷ 0 ∷ 0 ∷ 9 ∷ 0 ∷ 0 ∷ 0 ∷ 10
    ∷ replicate 360 0

-- each state stays where it is, so its moment is its reward over 10: a label of two digits, and a moment of 1.000000000000
abbrev pub sheet_ten : List ℕ
sheet_ten =
    108 ∷ 101 ∷ 118 ∷ 101 ∷ 108 ∷ 32 ∷ 49 ∷ 10
    ∷ 49 ∷ 32 ∷ 49 ∷ 32 ∷ 48 ∷ 46 ∷ 49 ∷ 48 ∷ 48 ∷ 48 ∷ 48 ∷ 48 ∷ 48 ∷ 48 ∷ 48 ∷ 48 ∷ 48 ∷ 48 ∷ 10
    ∷ 50 ∷ 32 ∷ 49 ∷ 32 ∷ 48 ∷ 46 ∷ 50 ∷ 48 ∷ 48 ∷ 48 ∷ 48 ∷ 48 ∷ 48 ∷ 48 ∷ 48 ∷ 48 ∷ 48 ∷ 48 ∷ 10
    ∷ 51 ∷ 32 ∷ 49 ∷ 32 ∷ 48 ∷ 46 ∷ 51 ∷ 48 ∷ 48 ∷ 48 ∷ 48 ∷ 48 ∷ 48 ∷ 48 ∷ 48 ∷ 48 ∷ 48 ∷ 48 ∷ 10
    ∷ 52 ∷ 32 ∷ 49 ∷ 32 ∷ 48 ∷ 46 ∷ 52 ∷ 48 ∷ 48 ∷ 48 ∷ 48 ∷ 48 ∷ 48 ∷ 48 ∷ 48 ∷ 48 ∷ 48 ∷ 48 ∷ 10
    ∷ 53 ∷ 32 ∷ 49 ∷ 32 ∷ 48 ∷ 46 ∷ 53 ∷ 48 ∷ 48 ∷ 48 ∷ 48 ∷ 48 ∷ 48 ∷ 48 ∷ 48 ∷ 48 ∷ 48 ∷ 48 ∷ 10
    ∷ 54 ∷ 32 ∷ 49 ∷ 32 ∷ 48 ∷ 46 ∷ 54 ∷ 48 ∷ 48 ∷ 48 ∷ 48 ∷ 48 ∷ 48 ∷ 48 ∷ 48 ∷ 48 ∷ 48 ∷ 48 ∷ 10
    ∷ 55 ∷ 32 ∷ 49 ∷ 32 ∷ 48 ∷ 46 ∷ 55 ∷ 48 ∷ 48 ∷ 48 ∷ 48 ∷ 48 ∷ 48 ∷ 48 ∷ 48 ∷ 48 ∷ 48 ∷ 48 ∷ 10
    ∷ 56 ∷ 32 ∷ 49 ∷ 32 ∷ 48 ∷ 46 ∷ 56 ∷ 48 ∷ 48 ∷ 48 ∷ 48 ∷ 48 ∷ 48 ∷ 48 ∷ 48 ∷ 48 ∷ 48 ∷ 48 ∷ 10
    ∷ 57 ∷ 32 ∷ 49 ∷ 32 ∷ 48 ∷ 46 ∷ 57 ∷ 48 ∷ 48 ∷ 48 ∷ 48 ∷ 48 ∷ 48 ∷ 48 ∷ 48 ∷ 48 ∷ 48 ∷ 48 ∷ 10
    ∷ 49 ∷ 48 ∷ 32 ∷ 49 ∷ 32 ∷ 49 ∷ 46 ∷ 48 ∷ 48 ∷ 48 ∷ 48 ∷ 48 ∷ 48 ∷ 48 ∷ 48 ∷ 48 ∷ 48 ∷ 48 ∷ 48 ∷ 10
    ∷ []

-- its last line alone
pub tenth_line : figure_line 10 1 (replicate 9 0 ++ ONE ∷ []) 9 ≡ 49 ∷ 48 ∷ 32 ∷ 49 ∷ 32 ∷ 49 ∷ 46 ∷ replicate 12 48 ++ 10 ∷ []
unfolding digit digits places decimal figure label figure_line
tenth_line = refl

pub sheet_of_ten : printed_sheet file_ten ≡ sheet_ten
unfolding sum largest any_above firsts over big distributions jump_rate row_sum uniform_rate c max_reward jump_millionths framing quantities jumps room rows first_held row_mean reward_share mix next_entry first_vectors next_vectors U mode rightward leftward weight weight_sum tail_bound allowance passes? first_from level term weighted nearest last_quotient weighted_mean moment figure_of cell model_level outcome cells_after digit digits places decimal figure label figure_line figure_lines level_line sheet_of sheet printed_sheet
sheet_of_ten = refl

-- the cells of 64 states and of a starting distribution, for R = 8; and one byte more than the longest file that is accepted, version 2 with 64 states
pub lent_and_read : (lent_cells ≡ (64 + 1) * 8) × (read_limit ≡ 2 + (4 * 64 * 64 + 4 * 64 + 11) + 1)
lent_and_read = (refl, refl)

-- 16,656 bytes whose length field is 16,654
abbrev pub long_input : List ℕ
long_input = 0x41 ∷ 0x0E ∷ replicate 16654 0

-- its byte 8, the number of the refusal: judged as read, by its first 16,654 bytes, it is "refused 2"; judged whole it would be "refused 3"
pub long_number : (get_or (printed_sheet long_input) 8 0 ≡ 50) × (get_or (sheet long_input) 8 0 ≡ 51)
unfolding big framing quantities jumps room rows first_held outcome cells_after digit digits places decimal refused_line sheet_of sheet printed_sheet
long_number = (omega arith, omega arith)

pub long_input_lem : printed_sheet long_input ≡ 114 ∷ 101 ∷ 102 ∷ 117 ∷ 115 ∷ 101 ∷ 100 ∷ 32 ∷ 50 ∷ 10 ∷ []
unfolding big framing quantities jumps room rows first_held outcome cells_after digit digits places decimal refused_line sheet_of sheet printed_sheet
long_input_lem = refl

-- what printed figures denote: 1, and B's 23/32
pub denoted : Denotes (figure ONE) (whole 1) × Denotes (figure 718750000000) (ratio 23 32 (lit< tt))
unfolding digit digits figure before_point after_point decimal_of all_digits value_of
denoted = (record { number = refl; decimals = refl; value = record { cross = refl } }, record { number = refl; decimals = refl; value = record { cross = refl } })

-- with another last digit it is another number, and "0.x" denotes none
pub denotes_another : Denotes (figure 718750000001) (ratio 23 32 (lit< tt)) → ⊥
unfolding digit digits figure before_point after_point decimal_of all_digits value_of
denotes_another h = omega (arith, h.value.cross)

pub denotes_none : (x : Fraction) → Denotes (48 ∷ 46 ∷ 120 ∷ []) x → ⊥
unfolding before_point after_point all_digits
denotes_none x h = omega (arith, ap {B = ℕ} (λ (b : Bool). pick {A = ℕ} b 1 0) h.decimals)
