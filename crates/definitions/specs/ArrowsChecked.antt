-- Document 02, S-7, checked by hand: the arrows of a file of four states, the states that its row means add, its row means, and B over its arrows.
use Rattle.std.specs.Prelude.{ℕ, suc, ◌*◌, Bool, List, [], ◌∷◌, ◌≡◌, refl, replicate}
use Rattle.std.proofs.Common.{arith, ap}
use Rattle.definitions.specs.Sums.{sum, largest, firsts, pick}
use Rattle.definitions.specs.Bytes.{big}
use Rattle.definitions.specs.File.{distributions}
use Rattle.definitions.specs.Chain.{Model, model_of, Listing, listed, jump_rate, row_sum, uniform_rate, c, max_reward, chain_of}
use Rattle.definitions.specs.Vectors.{row_mean, reward_share, mix, first_vectors}
use Rattle.definitions.specs.Weights.{mode, rightward, leftward, weight, weight_sum}
use Rattle.definitions.specs.Level.{tail_bound, allowance, passes?, first_from, level}
use Rattle.definitions.specs.Moment.{term, weighted, nearest, last_quotient, weighted_mean}
use Rattle.definitions.specs.Arrows.{falling, is_in, others, add_up, arrows, added_states, arrow_sum, arrow_rate, arrow_entry, arrow_mean, next_by_arrows, UByArrows, level_by_arrows, moment_by_arrows, ListsRows}
use Rattle.definitions.specs.HandChecked.{model_b}

-- four states. State 1 goes to 3 at rate 5. State 2 goes nowhere. State 3 goes to 1, 2 and 4 at rates 3, 1 and 4, which is the largest row sum, 8. State 4
-- goes to 1 at rate 2.
abbrev pub file_four : List ℕ
file_four =
    0x00 ∷ 0x4B ∷ 0x01 ∷ 0x04 ∷ 0x01 ∷ 0x00 ∷ 0x00 ∷ 0x27 ∷ 0x10 ∷ 0x00 ∷ 0x00 ∷ 0x00 ∷ 0x01
    ∷ 0 ∷ 0 ∷ 0 ∷ 1 ∷ 0 ∷ 0 ∷ 0 ∷ 2 ∷ 0 ∷ 0 ∷ 0 ∷ 3 ∷ 0 ∷ 0 ∷ 0 ∷ 4
    ∷ 0 ∷ 0 ∷ 0 ∷ 0 ∷ 0 ∷ 0 ∷ 0 ∷ 5 ∷ 0 ∷ 0 ∷ 0 ∷ 0
    ∷ 0 ∷ 0 ∷ 0 ∷ 0 ∷ 0 ∷ 0 ∷ 0 ∷ 0 ∷ 0 ∷ 0 ∷ 0 ∷ 0
    ∷ 0 ∷ 0 ∷ 0 ∷ 3 ∷ 0 ∷ 0 ∷ 0 ∷ 1 ∷ 0 ∷ 0 ∷ 0 ∷ 4
    ∷ 0 ∷ 0 ∷ 0 ∷ 2 ∷ 0 ∷ 0 ∷ 0 ∷ 0 ∷ 0 ∷ 0 ∷ 0 ∷ 0
    ∷ []

abbrev pub four : Model
four = model_of file_four

-- the arrows, and with the diagonal in its own place among them: states are counted from 0 here
pub arrows_of_four : firsts 4 (arrows four) ≡ (2 ∷ []) ∷ [] ∷ (3 ∷ 1 ∷ 0 ∷ []) ∷ (0 ∷ []) ∷ []
unfolding firsts falling big distributions arrows
arrows_of_four = refl

pub added_of_four : firsts 4 (added_states four) ≡ (2 ∷ 0 ∷ []) ∷ (1 ∷ []) ∷ (3 ∷ 2 ∷ 1 ∷ 0 ∷ []) ∷ (3 ∷ 0 ∷ []) ∷ []
unfolding firsts falling big distributions added_states
added_of_four = refl

-- the row means of 100, 200, 300 and 400: (5 × 300 + 3 × 100) / 8, (8 × 200) / 8, (4 × 400 + 0 × 300 + 1 × 200 + 3 × 100) / 8 and (6 × 400 + 2 × 100) / 8
pub means_of_four : firsts 4 (arrow_mean four (λ j. suc j * 100)) ≡ 225 ∷ 200 ∷ 262 ∷ 325 ∷ []
unfolding firsts largest falling add_up big distributions arrows added_states arrow_sum arrow_rate arrow_entry arrow_mean
means_of_four = refl

-- as document 01 adds them
pub old_means_of_four : firsts 4 (row_mean (chain_of four) (λ j. suc j * 100)) ≡ 225 ∷ 200 ∷ 262 ∷ 325 ∷ []
unfolding firsts sum largest big distributions jump_rate row_sum uniform_rate c row_mean
old_means_of_four = refl

-- B over its arrows: its level, and its first moments from both states
pub over_arrows_B : (level_by_arrows model_b ≡ 3) × (firsts 2 (moment_by_arrows model_b 3 1) ≡ 718750000000 ∷ 281250000000 ∷ [])
unfolding firsts sum largest falling add_up big distributions max_reward arrows added_states arrow_sum arrow_rate arrow_entry arrow_mean next_by_arrows UByArrows level_by_arrows moment_by_arrows reward_share mix first_vectors mode rightward leftward weight weight_sum tail_bound allowance passes? first_from level term weighted nearest last_quotient weighted_mean
over_arrows_B = (refl, refl)

-- the rows of the file of four states as they are lent, with another last row, whose first so many places are used; its own is 3 and 0
abbrev with_last : List ℕ → ℕ → Listing
with_last row n = listed (2 ∷ 0 ∷ 0 ∷ 0 ∷ 1 ∷ 0 ∷ 0 ∷ 0 ∷ 3 ∷ 2 ∷ 1 ∷ 0 ∷ row) (replicate 16 0) (2 ∷ 1 ∷ 4 ∷ n ∷ [])

-- "every other state with a rate above 0 once, highest first, and no more" is false of a row without its arrow, with one of rate 0, and with a state that is
-- not there
pub arrow_missing : ListsRows four (with_last (3 ∷ 0 ∷ 0 ∷ 0 ∷ []) 1) → ⊥
unfolding is_in others big distributions
arrow_missing h = omega (arith, ap (λ (b : Bool). pick {A = ℕ} b 1 0) ((h.row 3 (omega arith)).the_arrows.exactly 0))

pub arrow_of_rate_0 : ListsRows four (with_last (3 ∷ 1 ∷ 0 ∷ 0 ∷ []) 3) → ⊥
unfolding is_in others big distributions
arrow_of_rate_0 h = omega (arith, ap (λ (b : Bool). pick {A = ℕ} b 1 0) ((h.row 3 (omega arith)).the_arrows.exactly 1))

pub arrow_nowhere : ListsRows four (with_last (4 ∷ 3 ∷ 0 ∷ 0 ∷ []) 3) → ⊥
unfolding is_in others big distributions
arrow_nowhere h = omega (arith, ap (λ (b : Bool). pick {A = ℕ} b 1 0) ((h.row 3 (omega arith)).the_arrows.exactly 4))

-- with its arrow twice: neither the arrows fall nor the row
pub arrow_twice : (ListsRows four (with_last (3 ∷ 0 ∷ 0 ∷ 0 ∷ []) 3) → ⊥) × (ListsRows four (with_last (3 ∷ 0 ∷ 0 ∷ 0 ∷ []) 3) → ⊥)
unfolding others
arrow_twice = (λ h. omega (arith, (h.row 3 (omega arith)).the_arrows.falls 0 (omega arith)), λ h. omega (arith, (h.row 3 (omega arith)).falls 1 (omega arith)))

-- without the diagonal, and with the diagonal last
pub diagonal_missing : ListsRows four (with_last (0 ∷ 0 ∷ 0 ∷ 0 ∷ []) 1) → ⊥
unfolding is_in
diagonal_missing h = omega (arith, ap (λ (b : Bool). pick {A = ℕ} b 1 0) (h.row 3 (omega arith)).diagonal)

pub diagonal_last : ListsRows four (with_last (0 ∷ 3 ∷ 0 ∷ 0 ∷ []) 2) → ⊥
diagonal_last h = omega (arith, (h.row 3 (omega arith)).falls 0 (omega arith))
