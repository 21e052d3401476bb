-- Document 02, S-6, checked by hand: the first draws of some seed numbers, practice files, and what stops a call.
use Rattle.std.specs.Prelude.{ℕ, ◌+◌, List, [], ◌∷◌, ◌++◌, ◌≡◌, refl, get_or, set}
use Rattle.std.proofs.Common.{arith, ap}
use Rattle.definitions.specs.Sums.{firsts}
use Rattle.definitions.specs.Bytes.{big, bytes_of}
use Rattle.definitions.specs.File.{distributions}
use Rattle.definitions.specs.Rules.{Answer, accepted, refused, framing, room, rows, first_held, file_judgement}
use Rattle.definitions.specs.Moment.{outcome}
use Rattle.definitions.specs.Fields.{Fields, numbers_at, words_of, fields_of, headed, file_of}
use Rattle.definitions.specs.Written.{written, file_for, bytes_after}
use Rattle.definitions.specs.Practice.{next, stream, upper, draw, practice_fields, practice_file, practice, DealtWell}
use Rattle.definitions.specs.StartChecked.{row_of}

-- seed number 0: the first step gives 1013904223, which is 15470 × 65536 and 62303; the second 1196435762, 18256 × 65536 and 10546. Seed number
-- 2^32 − 1 is cut in its first step: −1664525 + 1013904223 is 1012239698.
pub first_steps : (next 0 ≡ 1013904223) × (next 1013904223 ≡ 1196435762) × (next 0xFFFFFFFF ≡ 1012239698)
unfolding next
first_steps = (refl, refl, refl)

pub first_draws :
    (firsts 2 (draw 0) ≡ 15470 ∷ 18256 ∷ [])
    × (firsts 5 (draw 1) ≡ 15496 ∷ 24200 ∷ 33046 ∷ 46195 ∷ 3312 ∷ [])
    × (firsts 5 (draw 0x80000000) ≡ 48238 ∷ 51024 ∷ 20940 ∷ 11001 ∷ 57938 ∷ [])
    × (firsts 2 (draw 0xFFFFFFFF) ≡ 15445 ∷ 12311 ∷ [])
unfolding next stream upper draw firsts
first_draws = (refl, refl, refl, refl)

-- M 1, R 1 and seed number 0: 15470 over 4,096 is 3, so the time is 4; the reward is 18256 + 1
abbrev pub dealt0 : List ℕ
dealt0 = 0x00 ∷ 0x0F ∷ 0x01 ∷ 0x01 ∷ 0x01 ∷ 0x00 ∷ 0x00 ∷ 0x27 ∷ 0x10 ∷ 0x00 ∷ 0x00 ∷ 0x00 ∷ 0x04 ∷ 0x00 ∷ 0x00 ∷ 0x47 ∷ 0x51 ∷ []

-- M 2, R 2 and seed number 1: time 4, rewards 24201 and 33046, rates 46195 and 3312
abbrev pub dealt1 : List ℕ
dealt1 =
    0x00 ∷ 0x1B ∷ 0x01 ∷ 0x02 ∷ 0x02 ∷ 0x00 ∷ 0x00 ∷ 0x27 ∷ 0x10 ∷ 0x00 ∷ 0x00 ∷ 0x00 ∷ 0x04 ∷ 0x00 ∷ 0x00 ∷ 0x5E
    ∷ 0x89 ∷ 0x00 ∷ 0x00 ∷ 0x81 ∷ 0x16 ∷ 0x00 ∷ 0x00 ∷ 0xB4 ∷ 0x73 ∷ 0x00 ∷ 0x00 ∷ 0x0C ∷ 0xF0 ∷ []

-- M 3, R 2 and seed number 1234: time 12, rewards 13567, 49121 and 22679, rates 52654, 19465, 15953, 11323, 17186 and 31014
abbrev pub dealt1234 : List ℕ
dealt1234 =
    0x00 ∷ 0x2F ∷ 0x01 ∷ 0x03 ∷ 0x02 ∷ 0x00 ∷ 0x00 ∷ 0x27 ∷ 0x10 ∷ 0x00 ∷ 0x00 ∷ 0x00 ∷ 0x0C ∷ 0x00 ∷ 0x00 ∷ 0x34
    ∷ 0xFF ∷ 0x00 ∷ 0x00 ∷ 0xBF ∷ 0xE1 ∷ 0x00 ∷ 0x00 ∷ 0x58 ∷ 0x97 ∷ 0x00 ∷ 0x00 ∷ 0xCD ∷ 0xAE ∷ 0x00 ∷ 0x00 ∷ 0x4C ∷ 0x09
    ∷ 0x00 ∷ 0x00 ∷ 0x3E ∷ 0x51 ∷ 0x00 ∷ 0x00 ∷ 0x2C ∷ 0x3B ∷ 0x00 ∷ 0x00 ∷ 0x43 ∷ 0x22 ∷ 0x00 ∷ 0x00 ∷ 0x79 ∷ 0x26 ∷ []

-- M 1 and R 8. Seed number 4038459617 draws 4095 and 65535: 4095 over 4,096 is 0, so the time is 1, and the reward is 65536. Seed number 229854744
-- draws 65535 twice: the time is 16, the latest.
abbrev pub earliest : List ℕ
earliest = 0x00 ∷ 0x0F ∷ 0x01 ∷ 0x01 ∷ 0x08 ∷ 0x00 ∷ 0x00 ∷ 0x27 ∷ 0x10 ∷ 0x00 ∷ 0x00 ∷ 0x00 ∷ 0x01 ∷ 0x00 ∷ 0x01 ∷ 0x00 ∷ 0x00 ∷ []

abbrev pub latest : List ℕ
latest = 0x00 ∷ 0x0F ∷ 0x01 ∷ 0x01 ∷ 0x08 ∷ 0x00 ∷ 0x00 ∷ 0x27 ∷ 0x10 ∷ 0x00 ∷ 0x00 ∷ 0x00 ∷ 0x10 ∷ 0x00 ∷ 0x01 ∷ 0x00 ∷ 0x00 ∷ []

-- what is asked for, and the answer
pub record Asked : Type 0 where
  pub states : ℕ
  pub highest : ℕ
  pub seed : ℕ
  pub lent : ℕ
  pub answer : Answer (List ℕ)

abbrev pub AllAnswered : List Asked → Type 0
AllAnswered [] = Unit {0}
AllAnswered (a ∷ rest) = (practice a.states a.highest a.seed a.lent ≡ a.answer) × AllAnswered rest

-- with bytes enough and one too few; M and R at 0 and past their limits; 4 before 5, and both before 13
abbrev pub asked : List Asked
asked =
    record { states = 1; highest = 1; seed = 0; lent = 17; answer = accepted dealt0 }
    ∷ record { states = 1; highest = 1; seed = 0; lent = 16; answer = refused 13 }
    ∷ record { states = 2; highest = 2; seed = 1; lent = 1000; answer = accepted dealt1 }
    ∷ record { states = 2; highest = 2; seed = 1; lent = 28; answer = refused 13 }
    ∷ record { states = 3; highest = 2; seed = 1234; lent = 49; answer = accepted dealt1234 }
    ∷ record { states = 1; highest = 8; seed = 4038459617; lent = 17; answer = accepted earliest }
    ∷ record { states = 1; highest = 8; seed = 229854744; lent = 17; answer = accepted latest }
    ∷ record { states = 0; highest = 1; seed = 0; lent = 17; answer = refused 4 }
    ∷ record { states = 65; highest = 9; seed = 0; lent = 0; answer = refused 4 }
    ∷ record { states = 0x100000001; highest = 1; seed = 0; lent = 17; answer = refused 4 }
    ∷ record { states = 1; highest = 0; seed = 0; lent = 17; answer = refused 5 }
    ∷ record { states = 64; highest = 9; seed = 0; lent = 0; answer = refused 5 }
    ∷ []

pub all_answered : AllAnswered asked
unfolding next stream upper draw firsts bytes_of words_of headed file_of room first_held file_for practice_fields practice_file practice
all_answered = (refl, (refl, (refl, (refl, (refl, (refl, (refl, (refl, (refl, (refl, (refl, (refl, tt))))))))))))

-- what is lent past the file stays, and a refusal writes nothing
pub bytes_after_dealing :
    (bytes_after (practice 1 1 0 18) (firsts 18 (λ k. 100 + k)) ≡ 0x00 ∷ 0x0F ∷ 0x01 ∷ 0x01 ∷ 0x01 ∷ 0x00 ∷ 0x00 ∷ 0x27 ∷ 0x10 ∷ 0x00 ∷ 0x00 ∷ 0x00 ∷ 0x04 ∷ 0x00 ∷ 0x00 ∷ 0x47 ∷ 0x51 ∷ 117 ∷ [])
    × (bytes_after (practice 1 9 0 2) (7 ∷ 7 ∷ []) ≡ 7 ∷ 7 ∷ [])
unfolding next stream upper draw firsts bytes_of words_of headed file_of room first_held written file_for practice_fields practice_file practice
bytes_after_dealing = (refl, refl)

-- what is promised of the file dealt is false of one with another time, or another last rate
pub dealt_fields : (DealtWell (accepted (set dealt1 12 5)) 2 2 1 → ⊥) × (DealtWell (accepted (set dealt1 28 0xF1)) 2 2 1 → ⊥)
unfolding next stream upper draw firsts big distributions numbers_at fields_of practice_fields
dealt_fields = (λ h. omega (arith, ap (λ (f : Fields). f.time) h.states_fields), λ h. omega (arith, ap (λ (f : Fields). get_or f.rates 1 0) h.states_fields))

-- and of one with a byte more, whose fields are the same: it is accepted neither where version 1 alone is admitted nor where both are, and has no figures,
-- with just 4 cells or more
abbrev pub too_long : List ℕ
too_long = dealt1 ++ 0 ∷ []

pub dealt_unaccepted : (DealtWell (accepted too_long) 2 2 1 → ⊥) × (DealtWell (accepted too_long) 2 2 1 → ⊥)
unfolding big framing first_held file_judgement
dealt_unaccepted = (λ h. omega (arith, ap row_of (h.accepts 1 (omega arith))), λ h. omega (arith, ap row_of (h.accepts 2 (omega arith))))

pub dealt_without_figures : (DealtWell (accepted too_long) 2 2 1 → ⊥) × (DealtWell (accepted too_long) 2 2 1 → ⊥)
unfolding big framing rows first_held outcome
dealt_without_figures = (λ h. omega (arith, ap row_of (h.has_figures 4 (omega arith))), λ h. omega (arith, ap row_of (h.has_figures 520 (omega arith))))
