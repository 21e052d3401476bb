-- The printed sheet: a figure denotes its cell, the cells that the program lends are enough, and a file is shorter than what it reads.
use Rattle.std.specs.Prelude.{ℕ, zero, suc, ◌+◌, ◌*◌, ◌-◌, ◌/◌, ◌%◌, ◌^◌, ◌≤◌, ◌<◌, ◌≡◌, refl, true, false, List, [], ◌∷◌, eqb, length}
use Rattle.std.proofs.Common.{arith, pow-suc, mul-le-mul_right, sym, ◌∙◌, ap, ne_eqb}
use Rattle.definitions.specs.Rules.{accepted, block_size, file_judgement, judgement}
use Rattle.definitions.specs.Vectors.{ONE}
use Rattle.definitions.specs.Promise.{ticks}
use Rattle.definitions.specs.Numeral.{is_digit, all_digits, value_of}
use Rattle.definitions.specs.Sheet.{digit, digits, figure, before_point, after_point, ten_pos, decimal_of, Denotes, lent_cells, read_limit}
use Rattle.laws.specs.Rounding.{quotient_remainder, remainder_below, remainder_unique}
use Rattle.laws.specs.RowLaws.{enough}
use Rattle.laws.specs.Acceptance.{accepted_file, length_max, block_max, judgement_in_parts}

-- 1. What a figure denotes.

pub length_digits : (x p : ℕ) → length (digits x p) ≡ p
unfolding digits
length_digits x zero = refl
length_digits x (suc p) = ap suc (length_digits x p)

-- a digit is a digit
digit_is : (x p : ℕ) → is_digit (digit x p) ≡ true
unfolding digit
digit_is x p = grind arith

all_digits_lem : (x p : ℕ) → all_digits (digits x p) ≡ true
unfolding all_digits digits
all_digits_lem x zero = refl
all_digits_lem x (suc p) = rw (digit_is x p) (all_digits_lem x p)

-- the last p digits of x are worth what x leaves by 10^p
pub digits_worth : (x p : ℕ) → value_of (digits x p) ≡ x % 10 ^ p
unfolding value_of digits digit
digits_worth x zero = sym (remainder_unique x 1 x 0 (omega arith) (omega arith))
digits_worth x (suc p) =
    let a : ℕ = x / 10 ^ p in
    let here : (48 + a % 10 - 48) * 10 ^ length (digits x p) ≡ a % 10 * 10 ^ p = rw (length_digits x p) (ap (λ (d : ℕ). d * 10 ^ p) (omega arith)) in
    sym
    (remainder_unique x (10 ^ suc p) (a / 10) ((48 + a % 10 - 48) * 10 ^ length (digits x p) + value_of (digits x p))
    (rw (pow-suc 10 p) (omega (arith, here, digits_worth x p, remainder_below x (10 ^ p) (ten_pos p), most)))
    (rw (pow-suc 10 p) (omega (arith, here, digits_worth x p, quotient_remainder x (10 ^ p), ap (λ (n : ℕ). n * 10 ^ p) (quotient_remainder a 10)))))
  where
    most : x / 10 ^ p % 10 * 10 ^ p + 10 ^ p ≤ 10 * 10 ^ p
    most = omega (arith, mul-le-mul_right (10 ^ p) (remainder_below (x / 10 ^ p) 10 (omega arith)))

-- a digit is no point
no_point : (x p : ℕ) → eqb (digit x p) 46 ≡ false
unfolding digit
no_point x p = ne_eqb (48 + x / 10 ^ p % 10) 46 (λ e. omega arith)

-- below 10^13 the digit before the point is all that stands there
first_worth : (x : ℕ) → x < 10 ^ 13 → value_of (digit x 12 ∷ []) ≡ x / 10 ^ 12
unfolding value_of digit
first_worth x h = omega arith

-- the digits and the point of a figure, read as a decimal, are its ticks
pub figure_denotes : (x : ℕ) → x ≤ ONE → Denotes (figure x) (ticks x)
unfolding figure before_point after_point decimal_of all_digits
figure_denotes x h =
    record {
      number = rw (no_point x 12) (rw (digit_is x 12) refl);
      decimals = rw (no_point x 12) (all_digits_lem x 12);
      value = rw (no_point x 12) (rw (length_digits x 12) (record { cross = omega (arith, first_worth x (omega arith), digits_worth x 12, quotient_remainder x (10 ^ 12)) }));
    }

-- 2. What the program lends and reads.

-- a file that is accepted with some cells passes rows 1 to 12 and 16
file_accepted : (s : List ℕ) (cells : ℕ) → judgement s cells ≡ accepted tt → file_judgement 1 2 s ≡ accepted tt
file_accepted s cells passed = grind (arith, judgement_in_parts)

pub cells_enough : (s : List ℕ) (cells : ℕ) → judgement s cells ≡ accepted tt → judgement s lent_cells ≡ accepted tt
cells_enough s cells passed =
    let file = accepted_file s cells passed in
    judgement_in_parts s lent_cells
    ∙ rw (file_accepted s cells passed) (enough (block_size s) lent_cells (omega (arith, block_max s file.model.framed file.model.limits.highest_max)))

-- an accepted file is shorter than what is read
pub short : (s : List ℕ) (cells : ℕ) → judgement s cells ≡ accepted tt → length s < read_limit
short s cells passed = omega (arith, length_max s (accepted_file s cells passed).model.framed)
