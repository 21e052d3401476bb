-- What is dealt from three texts, checked by hand, and calls that did otherwise.
use Rattle.std.specs.Prelude.{ℕ, List, [], ◌∷◌, ◌≡◌, refl, get_or, set, replicate, Option, None, Some, Ok, Err}
use Rattle.std.proofs.Common.{arith, ap}
use Rattle.definitions.specs.declared.NotDealt.TheVariants.{NoSeed}
use Rattle.definitions.specs.Sums.{firsts}
use Rattle.definitions.specs.Bytes.{big, bytes_of}
use Rattle.definitions.specs.Rules.{Answer, accepted, refused, room, first_held}
use Rattle.definitions.specs.Written.{written, file_for}
use Rattle.definitions.specs.Fields.{Fields, words_of, headed, fields_of, file_of}
use Rattle.definitions.specs.Practice.{next, stream, upper, draw, practice_fields, practice_file, practice}
use Rattle.definitions.specs.Numeral.{all_digits, value_of, numeral}
use Rattle.definitions.specs.Dealing.{dimension_in, seed_in, dealt_by, DealtFrom}
use Rattle.definitions.specs.PracticeChecked.{dealt0, dealt1234}

-- "0", "1", "2", "3", "9" and "x"
abbrev pub text0 : List ℕ
text0 = 48 ∷ []

abbrev pub text1 : List ℕ
text1 = 49 ∷ []

abbrev pub text2 : List ℕ
text2 = 50 ∷ []

abbrev pub text3 : List ℕ
text3 = 51 ∷ []

abbrev pub text9 : List ℕ
text9 = 57 ∷ []

abbrev pub text_x : List ℕ
text_x = 120 ∷ []

-- "65536", "2147483648", "4294967295", "4294967296" and 2^64 + 1, "18446744073709551617"
abbrev pub text2to16 : List ℕ
text2to16 = 54 ∷ 53 ∷ 53 ∷ 51 ∷ 54 ∷ []

abbrev pub text2to31 : List ℕ
text2to31 = 50 ∷ 49 ∷ 52 ∷ 55 ∷ 52 ∷ 56 ∷ 51 ∷ 54 ∷ 52 ∷ 56 ∷ []

abbrev pub text_last : List ℕ
text_last = 52 ∷ 50 ∷ 57 ∷ 52 ∷ 57 ∷ 54 ∷ 55 ∷ 50 ∷ 57 ∷ 53 ∷ []

abbrev pub text2to32 : List ℕ
text2to32 = 52 ∷ 50 ∷ 57 ∷ 52 ∷ 57 ∷ 54 ∷ 55 ∷ 50 ∷ 57 ∷ 54 ∷ []

abbrev pub text_past : List ℕ
text_past = 49 ∷ 56 ∷ 52 ∷ 52 ∷ 54 ∷ 55 ∷ 52 ∷ 52 ∷ 48 ∷ 55 ∷ 51 ∷ 55 ∷ 48 ∷ 57 ∷ 53 ∷ 53 ∷ 49 ∷ 54 ∷ 49 ∷ 55 ∷ []

-- M 1 and R 1. Seed number 65536 draws 41595 and 41977: the time is 11, the reward 41978. 2^31 draws 48238 and 51024: 12 and 51025. 2^32 − 1 draws
-- 15445 and 12311: 4 and 12312.
abbrev pub dealt2to16 : List ℕ
dealt2to16 = 0x00 ∷ 0x0F ∷ 0x01 ∷ 0x01 ∷ 0x01 ∷ 0x00 ∷ 0x00 ∷ 0x27 ∷ 0x10 ∷ 0x00 ∷ 0x00 ∷ 0x00 ∷ 0x0B ∷ 0x00 ∷ 0x00 ∷ 0xA3 ∷ 0xFA ∷ []

abbrev pub dealt2to31 : List ℕ
dealt2to31 = 0x00 ∷ 0x0F ∷ 0x01 ∷ 0x01 ∷ 0x01 ∷ 0x00 ∷ 0x00 ∷ 0x27 ∷ 0x10 ∷ 0x00 ∷ 0x00 ∷ 0x00 ∷ 0x0C ∷ 0x00 ∷ 0x00 ∷ 0xC7 ∷ 0x51 ∷ []

abbrev pub dealt_last : List ℕ
dealt_last = 0x00 ∷ 0x0F ∷ 0x01 ∷ 0x01 ∷ 0x01 ∷ 0x00 ∷ 0x00 ∷ 0x27 ∷ 0x10 ∷ 0x00 ∷ 0x00 ∷ 0x00 ∷ 0x04 ∷ 0x00 ∷ 0x00 ∷ 0x30 ∷ 0x18 ∷ []

-- three texts and a number of bytes lent, and the answer
pub record ThreeTexts : Type 0 where
  pub states : List ℕ
  pub highest : List ℕ
  pub seed : List ℕ
  pub lent : ℕ
  pub answer : Answer (Option (List ℕ))

abbrev pub AllDealt : List ThreeTexts → Type 0
AllDealt [] = Unit {0}
AllDealt (a ∷ rest) = (dealt_by (dimension_in a.states) (dimension_in a.highest) (seed_in a.seed) a.lent ≡ a.answer) × AllDealt rest

-- seed numbers that have more than 16 bits and more than 31; 4 before 5, 5 before the seed number, and that before 13; 2^64 + 1 is not taken for 1
abbrev pub texts : List ThreeTexts
texts =
    record { states = text3; highest = text2; seed = 49 ∷ 50 ∷ 51 ∷ 52 ∷ []; lent = 49; answer = accepted (Some dealt1234) }
    ∷ record { states = text1; highest = text1; seed = text0; lent = 17; answer = accepted (Some dealt0) }
    ∷ record { states = text1; highest = text1; seed = text2to16; lent = 17; answer = accepted (Some dealt2to16) }
    ∷ record { states = text1; highest = text1; seed = text2to31; lent = 17; answer = accepted (Some dealt2to31) }
    ∷ record { states = text1; highest = text1; seed = text_last; lent = 17; answer = accepted (Some dealt_last) }
    ∷ record { states = text0; highest = text9; seed = text_x; lent = 0; answer = refused 4 }
    ∷ record { states = text3; highest = text9; seed = text_x; lent = 0; answer = refused 5 }
    ∷ record { states = text3; highest = text2; seed = text2to32; lent = 0; answer = accepted None }
    ∷ record { states = text3; highest = text2; seed = []; lent = 0; answer = accepted None }
    ∷ record { states = text3; highest = text2; seed = 45 ∷ 49 ∷ []; lent = 0; answer = accepted None }
    ∷ record { states = text1; highest = text1; seed = text0; lent = 16; answer = refused 13 }
    ∷ record { states = text_past; highest = text1; seed = text0; lent = 17; answer = refused 4 }
    ∷ record { states = []; highest = text1; seed = text0; lent = 17; answer = refused 4 }
    ∷ record { states = text1; highest = text_x; seed = text0; lent = 17; answer = refused 5 }
    ∷ []

pub all_dealt : AllDealt texts
unfolding all_digits value_of numeral dimension_in seed_in next stream upper draw firsts bytes_of words_of headed file_of room first_held file_for practice_fields practice_file practice
all_dealt = (refl, (refl, (refl, (refl, (refl, (refl, (refl, (refl, (refl, (refl, (refl, (refl, (refl, (refl, tt))))))))))))))

-- another count, another byte, and the file of seed number 0 for 65536
pub another_count : (after : List ℕ) → DealtFrom text1 text1 text0 (Ok 18) (replicate 18 7) after → ⊥
unfolding all_digits value_of numeral dimension_in seed_in firsts bytes_of words_of headed file_of room first_held file_for practice_fields practice_file practice
another_count after h =
    let counts : ◌≡◌ {A = Answer (Option ℕ)} (accepted (Some 18)) (accepted (Some 17)) = h.answer in
    let same : ◌≡◌ {A = ℕ} 18 17 = cc in
    omega arith

pub another_byte : DealtFrom text1 text1 text0 (Ok 17) (replicate 17 7) (set dealt0 16 0x50) → ⊥
unfolding all_digits value_of numeral dimension_in seed_in next stream upper draw firsts bytes_of words_of headed file_of room first_held written file_for practice_fields practice_file practice
another_byte h = omega (arith, ap (λ (l : List ℕ). get_or l 16 0) h.bytes)

pub another_seed : DealtFrom text1 text1 text2to16 (Ok 17) (replicate 17 7) dealt0 → ⊥
unfolding all_digits value_of numeral dimension_in seed_in next stream upper draw firsts bytes_of words_of headed file_of room first_held written file_for practice_fields practice_file practice
another_seed h = omega (arith, ap (λ (l : List ℕ). get_or l 16 0) h.bytes)

-- a byte written where there is no seed number; and no seed number told where row 4 holds
pub byte_without_seed : DealtFrom text1 text1 text_x (Err NoSeed) (7 ∷ 7 ∷ []) (7 ∷ 0 ∷ []) → ⊥
unfolding all_digits value_of numeral dimension_in seed_in first_held
byte_without_seed h = omega (arith, ap (λ (l : List ℕ). get_or l 1 0) h.bytes)

pub seed_before_4 : (before after : List ℕ) → DealtFrom text0 text2 text_x (Err NoSeed) before after → ⊥
unfolding all_digits value_of numeral dimension_in seed_in first_held
seed_before_4 before after h =
    let answers : ◌≡◌ {A = Answer (Option ℕ)} (accepted None) (refused 4) = h.answer in
    let same : ◌≡◌ {A = ℕ} 0 1 = cc in
    omega arith

-- a file with another tolerance is not good
pub another_tolerance : DealtFrom text1 text1 text0 (Ok 17) dealt0 (set dealt0 8 0x11) → ⊥
unfolding all_digits value_of numeral seed_in big fields_of practice_fields
another_tolerance h = omega (arith, ap (λ (f : Fields). f.tolerance) (h.good 0 17 refl refl).states_fields)
