-- Digits, and how long the texts of the sheet are. Assumes nothing.
use Rattle.std.specs.Prelude.{◌≡◌, Bool, true, false, List, [], ◌∷◌, ℕ, zero, suc, ◌+◌, ◌-◌, ◌/◌, ◌%◌, ◌^◌, ◌≤◌, ◌<◌, ltb, length, get_or}
use Rattle.std.proofs.Common.{append_assoc, mul-le-mul, add-one, sub-one, arith, lt-ltb, le-ltb}
use Rattle.std.proofs.Math.Nat.{pow-le-pow_right}
use Rattle.std.proofs.Math.Decide.{dec_le, dec_lt}
use Rattle.definitions.specs.Sums.{pick}
use Rattle.definitions.specs.Sheet.{digit, digits, places, decimal, label, figure_line}
use Rattle.laws.specs.Rounding.{remainder_below}
use Rattle.sheet.specs.Line.{line, line_width}
use Rattle.sheet.specs.Shape.{Shape}

-- the highest of p digits, and the others
pub next_digit : (x p : ℕ) → 0 < p → digit x (p - 1) ∷ digits x (p - 1) ≡ digits x p
unfolding digits
next_digit x zero pos = elim pos [ ]
next_digit x (suc q) pos = rw sub-one

-- where powers up to 10^p are looked at: one digit where p is 0, p + 1 where x is not below 10^p, and else as many as with the lower powers
pub places_none : (x p : ℕ) → p ≡ 0 → places x p ≡ 1
unfolding places
places_none x p none = rw none

pub places_here : (x p : ℕ) → 0 < p → 10 ^ p ≤ x → places x p ≡ p + 1
unfolding places
places_here x zero pos h = elim pos [ ]
places_here x (suc q) pos h = rw (le-ltb x (10 ^ suc q) h, add-one)

pub places_below : (x p : ℕ) → 0 < p → x < 10 ^ p → places x p ≡ places x (p - 1)
unfolding places
places_below x zero pos h = elim pos [ ]
places_below x (suc q) pos h = rw (lt-ltb x (10 ^ suc q) h, sub-one)

picked : (t : Bool) {a b m : ℕ} → a ≤ m → b ≤ m → pick t a b ≤ m
picked true p q = p
picked false p q = q

-- at most k + 1 are found
pub places_limit : (x k : ℕ) → places x k ≤ suc k
unfolding places
places_limit x zero = omega arith
places_limit x (suc k) = picked (ltb x (10 ^ suc k)) (omega (arith, places_limit x k)) (omega arith)

-- and at most j + 1 where x is below 10^(j + 1)
pub places_short : (x j k : ℕ) → x < 10 ^ suc j → places x k ≤ suc j
unfolding places
places_short x j zero high = omega arith
places_short x j (suc k) high =
    elim (dec_le (suc k) j) [
      | yes l ↦ omega (arith, places_limit x (suc k))
      | no n ↦
          let below : x < 10 ^ suc k = omega (arith, pow-le-pow_right {n = 10} (omega arith) {i = suc j} {j = suc k} (omega arith)) in
          rw (lt-ltb x (10 ^ suc k) below) (places_short x j k high)
    ]

-- a row below M begins with its state's number, and one past it with "start"
pub label_state : (M i : ℕ) → i < M → label M i ≡ decimal (i + 1)
unfolding label
label_state M i h = rw (lt-ltb i M h)

pub label_start : (M i : ℕ) → M ≤ i → label M i ≡ 115 ∷ 116 ∷ 97 ∷ 114 ∷ 116 ∷ []
unfolding label
label_start M i h = rw (le-ltb i M h)

-- at most 520 lines
pub area : {M R : ℕ} {cells : List ℕ} → Shape M R cells → length cells ≤ 520
area {M} {R} h =
    let most : M + 1 ≤ 65 = omega (arith, h.states) in
    omega (arith, h.rows, mul-le-mul most h.highest)

-- the line of cell k: its r, counted from 0, has one digit, and it has at most 23 bytes
pub record Narrow (R k : ℕ) : Type 0 where
  pub some : 0 < R
  pub r : k % R < 8
  pub width : line_width (k % R + 1) ≤ 23

pub narrow : {M R : ℕ} {cells : List ℕ} (k : ℕ) → Shape M R cells → k < length cells → Narrow R k
narrow {M} {R} k h l =
    let pos : 0 < R = elim (dec_lt 0 R) [ yes p ↦ p | no n ↦ absurd (let none : R ≡ 0 = omega (arith, n) in omega (arith, l, rw none at h.rows)) ] in
    let m : k % R < 8 = omega (arith, remainder_below k R pos, h.highest) in
    record { some = pos; r = m; width = omega (arith, places_short (k % R + 1) 0 19 (omega arith)) }

-- the line of a cell, as its texts are put
pub line_of : (M R k : ℕ) (cells : List ℕ) → figure_line M R cells k ≡ line M (k / R) (k % R + 1) (get_or cells k 0)
unfolding figure_line
line_of M R k cells = simp append_assoc
