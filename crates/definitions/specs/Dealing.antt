-- What a call answers that deals a practice file from three texts, those of M, R and a seed number: the arguments of the program.
use Rattle.std.specs.Prelude.{ℕ, List, ◌≡◌, length, take, Result, Ok, Err, unwrap_or, Option, None, Some}
use Rattle.definitions.specs.declared.NotDealt.{NotDealt}
use Rattle.definitions.specs.declared.NotDealt.TheVariants.{Refused, NoSeed}
use Rattle.definitions.specs.Refusal.{row_of}
use Rattle.definitions.specs.Rules.{Answer, accepted, refused, saying, dimensions, judged_by}
use Rattle.definitions.specs.Written.{written}
use Rattle.definitions.specs.Practice.{practice, Dealt}
use Rattle.definitions.specs.Numeral.{numeral}

-- what a text says of M or R: a number of 64 bits, or 0, which row 4 or 5 stops, where it says none
unfoldable pub dimension_in : List ℕ → ℕ
dimension_in text = unwrap_or (numeral 0xFFFFFFFFFFFFFFFF text) 0

-- the seed number that a text says
unfoldable pub seed_in : List ℕ → Option ℕ
seed_in text = numeral 4294967295 text

-- what is dealt for M, R and a seed number, lent with a number of bytes. Where there is no seed number, rows 4 and 5 still come first; row 13 does not.
abbrev pub dealt_by : ℕ → ℕ → Option ℕ → ℕ → Answer (Option (List ℕ))
dealt_by M R (Some seed) lent = saying Some (practice M R seed lent)
dealt_by M R None lent = saying (λ x. None) (judged_by (dimensions M R))

-- the count of bytes that is returned
abbrev pub count_dealt : Answer (Option (List ℕ)) → Answer (Option ℕ)
count_dealt (accepted (Some file)) = accepted (Some (length file))
count_dealt (accepted None) = accepted None
count_dealt (refused k) = refused k

-- all bytes of what is lent after the call, from those before it: they are written where a file is dealt, and stay else
abbrev pub bytes_dealt : Answer (Option (List ℕ)) → List ℕ → List ℕ
bytes_dealt (accepted (Some file)) out = written file out
bytes_dealt (accepted None) out = out
bytes_dealt (refused k) out = out

-- the answer for each case of what the call hands back
abbrev pub dealing_answer : Result ℕ NotDealt → Answer (Option ℕ)
dealing_answer (Ok n) = accepted (Some n)
dealing_answer (Err (Refused e)) = refused (row_of e)
dealing_answer (Err NoSeed) = accepted None

-- a call for M, R and a seed number: its answer, the bytes after it from those before it, and that the bytes counted are a file good to practise on
pub record DealtBy (M R : ℕ) (seed : Option ℕ) (o : Result ℕ NotDealt) (before after : List ℕ) : Type 0 where
  pub answer : dealing_answer o ≡ count_dealt (dealt_by M R seed (length before))
  pub bytes : after ≡ bytes_dealt (dealt_by M R seed (length before)) before
  pub good : (n count : ℕ) → seed ≡ Some n → dealing_answer o ≡ accepted (Some count) → Dealt M R n (take count after)

-- a call with three texts
abbrev pub DealtFrom : List ℕ → List ℕ → List ℕ → Result ℕ NotDealt → List ℕ → List ℕ → Type 0
DealtFrom states highest seed o before after = DealtBy (dimension_in states) (dimension_in highest) (seed_in seed) o before after
