-- What a text of bytes says as a whole number in decimal.
use Rattle.std.specs.Prelude.{ℕ, ◌+◌, ◌*◌, ◌-◌, ◌^◌, List, [], ◌∷◌, Bool, true, ◌&&◌, ◌≡◌, refl, length, ltb, leb, Option, None, Some}
use Rattle.definitions.specs.Sums.{pick}

-- whether a byte is one of the digits 0 to 9
abbrev pub is_digit : ℕ → Bool
is_digit b = leb 48 b && leb b 57

-- whether every byte of a text is one
unfoldable pub all_digits : List ℕ → Bool
all_digits [] = true
all_digits (b ∷ later) = is_digit b && all_digits later

-- the value of a text of digits: each counts 10 to the number of those after it
unfoldable pub value_of : List ℕ → ℕ
value_of [] = 0
value_of (b ∷ later) = (b - 48) * 10 ^ length later + value_of later

-- the number that a text says, where it is one digit or more and nothing else, and the number is at most the limit
unfoldable pub numeral : ℕ → List ℕ → Option ℕ
numeral most text = pick (ltb 0 (length text) && all_digits text && leb (value_of text) most) (Some (value_of text)) None

-- "0" and "007"; "64" and "65" with limit 64; no text, "-1", " 1", "1 " and "0x10"; "4294967295" and "4294967296" with limit 4294967295
pub numerals_read :
    (numeral 64 (48 ∷ []) ≡ Some 0)
    × (numeral 64 (48 ∷ 48 ∷ 55 ∷ []) ≡ Some 7)
    × (numeral 64 (54 ∷ 52 ∷ []) ≡ Some 64)
    × (numeral 64 (54 ∷ 53 ∷ []) ≡ None)
    × (numeral 64 [] ≡ None)
    × (numeral 64 (45 ∷ 49 ∷ []) ≡ None)
    × (numeral 64 (32 ∷ 49 ∷ []) ≡ None)
    × (numeral 64 (49 ∷ 32 ∷ []) ≡ None)
    × (numeral 64 (48 ∷ 120 ∷ 49 ∷ 48 ∷ []) ≡ None)
    × (numeral 4294967295 (52 ∷ 50 ∷ 57 ∷ 52 ∷ 57 ∷ 54 ∷ 55 ∷ 50 ∷ 57 ∷ 53 ∷ []) ≡ Some 4294967295)
    × (numeral 4294967295 (52 ∷ 50 ∷ 57 ∷ 52 ∷ 57 ∷ 54 ∷ 55 ∷ 50 ∷ 57 ∷ 54 ∷ []) ≡ None)
unfolding all_digits value_of numeral
numerals_read = (refl, refl, refl, refl, refl, refl, refl, refl, refl, refl, refl)
