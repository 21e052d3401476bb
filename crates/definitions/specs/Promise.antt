-- Demand 3, as one statement over a file, the level that a call returned and the cells that it left.
use Rattle.std.specs.Prelude.{ℕ, ◌+◌, ◌*◌, ◌≤◌, ◌<◌, List, get_or}
use Rattle.std.proofs.Common.{lit<}
use Rattle.definitions.specs.declared.Run.{Run}
use Rattle.definitions.specs.Chain.{Model, model_of, max_reward}
use Rattle.definitions.specs.Rules.{Answer, accepted, refused}
use Rattle.definitions.specs.Vectors.{ONE}
use Rattle.definitions.specs.Level.{BILLION}
use Rattle.definitions.specs.Moment.{cell_of}
use Rattle.definitions.specs.Fraction.{Fraction, AtMost, ratio, whole, plus}
use Rattle.definitions.specs.Average.{average, start_average}

pub one_pos : 0 < ONE
one_pos = lit< tt

pub billion_pos : 0 < BILLION
billion_pos = lit< tt

-- k ticks: k millionths of a millionth
abbrev pub ticks : ℕ → Fraction
ticks k = ratio k ONE one_pos

-- the tolerance: ε over 10^9
abbrev pub tolerance_of : Model → Fraction
tolerance_of m = ratio m.tolerance BILLION billion_pos

-- x and y differ, either way, by at most d
pub record Within (x y d : Fraction) : Type 0 where
  pub above : AtMost x (plus y d)
  pub below : AtMost y (plus x d)

-- 3N + 2r + 3 ticks
abbrev pub rounding_ticks : ℕ → ℕ → Fraction
rounding_ticks N r = ticks (3 * N + 2 * r + 3)

-- what is promised of the printed moment p of state i and moment r, printed at level N
pub record Close (m : Model) (h : 0 < max_reward m) (N r i : ℕ) (p : Fraction) : Type 0 where
  pub not_negative : AtMost (whole 0) p
  pub at_most_one : AtMost p (whole 1)
  pub at_level : Within p (average m h N r i) (rounding_ticks N r)
  pub past_level : (L : ℕ) → N ≤ L → Within p (average m h L r i) (plus (tolerance_of m) (rounding_ticks N r))

-- a start figure may lose one tick more
abbrev pub start_ticks : ℕ → ℕ → Fraction
start_ticks N r = ticks (3 * N + 2 * r + 4)

-- what is promised of the start figure p for r, printed at level N
pub record StartClose (m : Model) (h : 0 < max_reward m) (N r : ℕ) (p : Fraction) : Type 0 where
  pub not_negative : AtMost (whole 0) p
  pub at_most_one : AtMost p (whole 1)
  pub at_level : Within p (start_average m h N r) (start_ticks N r)
  pub past_level : (L : ℕ) → N ≤ L → Within p (start_average m h L r) (plus (tolerance_of m) (start_ticks N r))

-- the printed moment of state i and moment r, or past the last state the start figure: the number in its cell, in ticks
abbrev pub printed : List ℕ → List ℕ → ℕ → ℕ → Fraction
printed s cells i r = ticks (get_or cells (cell_of (model_of s) i r) 0)

-- demand 3 of the file s, the level N and the cells: every state, every r from 1 to R, every L from N on; and the same of the start
-- figures, where there is a starting distribution
pub record Promise (s : List ℕ) (N : ℕ) (cells : List ℕ) : Type 0 where
  pub rewarded : 0 < max_reward (model_of s)
  pub close : (i r : ℕ) → i < (model_of s).states → 1 ≤ r → r ≤ (model_of s).highest → Close (model_of s) rewarded N r i (printed s cells i r)
  pub start_close : (r : ℕ) → 0 < (model_of s).distributions → 1 ≤ r → r ≤ (model_of s).highest → StartClose (model_of s) rewarded N r (printed s cells (model_of s).states r)

-- demand 3 of an answer: an acceptance promises it of its level, a refusal prints no moment
abbrev pub Promised : Answer Run → List ℕ → List ℕ → Type 0
Promised (accepted run) s cells = Promise s run.level cells
Promised (refused k) s cells = Unit {0}
