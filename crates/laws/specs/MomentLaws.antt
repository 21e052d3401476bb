-- The moments: their cells, the last quotient, and the level.
use Rattle.std.specs.Prelude.{ℕ, suc, ◌+◌, ◌*◌, ◌-◌, ◌/◌, ◌%◌, ◌≤◌, ◌<◌, ◌≡◌, refl, List, get_or}
use Rattle.std.proofs.Common.{arith, le_antisymm, mul-le-mul, mul-le-mul_left, ◌∙◌, lt-ltb, le-ltb}
use Rattle.definitions.specs.declared.Run.{Run}
use Rattle.definitions.specs.Sums.{over}
use Rattle.definitions.specs.Division.{Rounds}
use Rattle.definitions.specs.Chain.{Model, model_of, block_of}
use Rattle.definitions.specs.Vectors.{ONE}
use Rattle.definitions.specs.Weights.{weight, weight_sum}
use Rattle.definitions.specs.Moment.{term, weighted, last_quotient, weighted_mean, moment, start_figure, cell_of, figure_of, cell, run_of, outcome}
use Rattle.definitions.specs.Rules.{accepted, refused, rows, judgement}
use Rattle.laws.specs.Rounding.{quotient_at_most, quotient_below, remainder_below, place_in_row, place_below}
use Rattle.laws.specs.Nearest.{nearest_at_most, nearest_mono, nearest_up, nearest_down, nearest_rounds}
use Rattle.laws.specs.SumLaws.{sum_mono}
use Rattle.laws.specs.RuleLaws.{also_refused, also_accepted}
use Rattle.laws.specs.ListLaws.{get_d_over}

-- the r and the state of a cell below M × R are within R and M
pub row_of_cell : (k R : ℕ) → 1 ≤ R → k % R + 1 ≤ R
row_of_cell k R low = omega (arith, remainder_below k R low)

pub state_of_cell : (k M R : ℕ) → k < M * R → k / R < M
state_of_cell k M R h = quotient_below k M R h

-- M rows of R cells are at most k × 8 where M is at most k
pub count_max : (M R k : ℕ) → M ≤ k → R ≤ 8 → M * R ≤ k * 8
count_max M R k h l = mul-le-mul h l

-- the r of the cell of state i and moment r
pub moment_of_cell : (i r R : ℕ) → 1 ≤ r → r ≤ R → (i * R + (r - 1)) % R + 1 ≡ r
moment_of_cell i r R low high = omega (arith, place_in_row i (r - 1) R (omega arith))

-- that cell holds the figure of row i
pub cell_holds : (m : Model) (N i r : ℕ) → 1 ≤ r → r ≤ m.highest → cell m N (cell_of m i r) ≡ figure_of m N r i
unfolding cell cell_of
cell_holds m N i r low high = grind (arith, moment_of_cell)

-- which is the moment of a state, and past the states the start figure
pub figure_of_state : (m : Model) (N r i : ℕ) → i < m.states → figure_of m N r i ≡ moment m N r i
unfolding figure_of
figure_of_state m N r i l = rw (lt-ltb i m.states l) refl

pub figure_of_start : (m : Model) (N r i : ℕ) → m.states ≤ i → figure_of m N r i ≡ start_figure m N r
unfolding figure_of
figure_of_start m N r i l = rw (le-ltb i m.states l) refl

-- in the cells after a call
pub get_d_figure : (m : Model) (N i r : ℕ) (cells : List ℕ) → i < m.states + m.distributions → 1 ≤ r → r ≤ m.highest → get_or (over (block_of m) (cell m N) cells) (cell_of m i r) 0 ≡ figure_of m N r i
get_d_figure m N i r cells l low high =
    get_d_over 0 (block_of m) (cell m N) cells (cell_of m i r) (unfold cell_of in place_below i (r - 1) (m.states + m.distributions) m.highest l (omega arith))
    ∙ cell_holds m N i r low high

-- a term is at most its weight
pub term_max : (w u : ℕ) → u ≤ ONE → term w u ≤ w
unfolding term
term_max w u h = quotient_at_most (w * u) w ONE (mul-le-mul_left w h)

-- A is at most S where no u is above ONE
pub weighted_max : (X N : ℕ) (u : ℕ → ℕ) → ((n : ℕ) → n ≤ N → u n ≤ ONE) → weighted X u N ≤ weight_sum X N
unfolding weighted weight_sum
weighted_max X N u h = sum_mono (suc N) (λ n. term (weight X n) (u n)) (weight X) (λ n l. term_max (weight X n) (u n) (h n (omega arith)))

-- no lower values up to N have no lower weighted mean, whatever X and N
pub weighted_mean_mono : (X N : ℕ) (u v : ℕ → ℕ) → ((n : ℕ) → n ≤ N → u n ≤ v n) → weighted_mean X u N ≤ weighted_mean X v N
unfolding weighted_mean last_quotient weighted term
weighted_mean_mono X N u v h = grind (arith, sum_mono, mul-le-mul_left, nearest_mono)

-- equal values have equal ones
pub weighted_mean_same : (X N : ℕ) (u v : ℕ → ℕ) → ((n : ℕ) → n ≤ N → u n ≡ v n) → weighted_mean X u N ≡ weighted_mean X v N
weighted_mean_same X N u v h = le_antisymm (weighted_mean_mono X N u v (λ n l. omega (arith, h n l))) (weighted_mean_mono X N v u (λ n l. omega (arith, h n l)))

-- the last quotient is at most ONE where A is at most S
pub last_max : (A S : ℕ) → 0 < S → A ≤ S → last_quotient A S ≤ ONE
unfolding last_quotient
last_max A S pos h = nearest_at_most (A * ONE) ONE S pos (omega (arith, h))

-- by the remainder of A × 10^12 by S: one more than the quotient where twice the remainder reaches S
pub last_up : (A S : ℕ) → 0 < S → S ≤ 2 * (A * ONE % S) → last_quotient A S ≡ A * ONE / S + 1
unfolding last_quotient
last_up A S pos h = nearest_up (A * ONE) S pos h

pub last_down : (A S : ℕ) → 2 * (A * ONE % S) < S → last_quotient A S ≡ A * ONE / S
unfolding last_quotient
last_down A S h = nearest_down (A * ONE) S h

-- of no sum it is 0
pub last_none : (S : ℕ) → 0 < S → last_quotient 0 S ≡ 0
last_none S pos = grind (arith, last_down)

pub last_rounds : (A S : ℕ) → 0 < S → Rounds (A * ONE) S (last_quotient A S) (A * ONE % S)
unfolding last_quotient
last_rounds A S pos = nearest_rounds (A * ONE) S pos

-- the outcome of a refused file, and of an accepted one
pub outcome_refused : (s : List ℕ) (cells k : ℕ) → judgement s cells ≡ refused k → outcome s cells ≡ refused k
unfolding outcome judgement
outcome_refused s cells k e = also_refused (rows s cells) (tt {0}) (run_of (model_of s)) k e

pub outcome_accepted : (s : List ℕ) (cells : ℕ) → judgement s cells ≡ accepted tt → outcome s cells ≡ accepted (run_of (model_of s))
unfolding outcome judgement
outcome_accepted s cells e = also_accepted (rows s cells) (tt {0}) tt (run_of (model_of s)) e

-- a run is answered of an accepted file alone
pub run_judged : (s : List ℕ) (cells : ℕ) (run : Run) → outcome s cells ≡ accepted run → judgement s cells ≡ accepted tt
unfolding outcome judgement
run_judged s cells run e = also_accepted (rows s cells) (run_of (model_of s)) run (tt {0}) e
