-- What is claimed of each call on a record of stays (document 02, S-12), a field for each sentence.
use Rattle.std.specs.Prelude.{ℕ, ◌+◌, ◌*◌, ◌-◌, ◌≤◌, List, [], ◌∷◌, ◌≡◌, get_or, take, Result, Ok, Err}
use Rattle.definitions.specs.declared.Refusal.{Refusal}
use Rattle.definitions.specs.Refusal.{row_of}
use Rattle.definitions.specs.Rules.{Answer, accepted, refused, first_held, judged_by, answer_of}
use Rattle.definitions.specs.Stays.{Stay, start_rows, pair_rows, stay_answer, lasts, rate_in, Tallies, Tallied}
use Rattle.stays.specs.declared.Told.{Told}
use Rattle.stays.specs.Latest.{Latest, reached_by}

-- what a record tells
abbrev pub told : Latest → Tallies
told r = record { states = r.states; window = r.window; count = λ i j. get_or r.counts (i * 64 + j - 65) 0; hours = λ i. get_or r.hours (i - 1) 0 }

-- r comes from a start with M and W through the stays offered, taken or refused
abbrev pub Comes : Latest → ℕ → ℕ → List Stay → Type 0
Comes r M W offered = r ≡ reached_by M W offered

-- what a start is answered, and its record, which it has whatever the answer
abbrev pub start_answer : Result Latest Told → Answer (Unit {0})
start_answer (Ok r) = accepted tt
start_answer (Err t) = refused (row_of t.answer)

abbrev pub start_record : Result Latest Told → Latest
start_record (Ok r) = r
start_record (Err t) = t.latest

-- a start with M states and the window size W, its answer and its record
pub record StartClaim (M W : ℕ) (a : Result Latest Told) : Type 0 where
  -- "A start with M outside 1 to 64 is 4"; "22, a window size of 0 or above 256, at the start, after 4"
  pub answer : start_answer a ≡ judged_by (start_rows M W)
  -- "a window size fixed with M at the start"
  pub fixed : start_answer a ≡ accepted tt → ((start_record a).states ≡ M) × ((start_record a).window ≡ W)
  pub comes : Comes (start_record a) M W []
  -- "counts and hours equal a fresh tally"
  pub tallied : Tallied (told (start_record a)) []

-- a stay s offered to the record r, its answer and the next record
pub record StayClaim (r : Latest) (s : Stay) (a : Result (Unit {0}) Refusal) (next : Latest) : Type 0 where
  -- "Twenty also covers a stay … with a state outside 1 to M or with both states the same"; "21, hours 0 or above 10,000, after 20"
  pub answer : answer_of a ≡ stay_answer r.states s
  -- "A refused stay alters no record."
  pub unaltered : (k : ℕ) → answer_of a ≡ refused k → next ≡ r
  pub fixed : (next.states ≡ r.states) × (next.window ≡ r.window)
  -- the last ones accepted, all of them up to the window size
  pub kept : answer_of a ≡ accepted tt → next.stays ≡ take r.window (s ∷ r.stays)
  pub comes : (M W : ℕ) (offered : List Stay) → Comes r M W offered → Comes next M W (s ∷ offered)
  -- "In every record that comes from a start through stays, taken or refused, counts and hours equal a fresh tally of its last stays accepted, all of them up to
  -- the window size, and the counts sum to their number."
  pub tallied : (M W : ℕ) (offered : List Stay) → Comes r M W offered → Tallied (told next) (s ∷ offered)

-- the rate from i to j read of the record r
pub record RateClaim (r : Latest) (i j : ℕ) (a : Result ℕ Refusal) : Type 0 where
  -- 20, or "the count of i to j times 1,000,000 over the hours in i, down, or 0 where i has no hours", of the last stays accepted
  pub read : answer_of a ≡ first_held (pair_rows r.states i j) (rate_in i j r.stays)
  pub answer : (M W : ℕ) (offered : List Stay) → Comes r M W offered → answer_of a ≡ first_held (pair_rows r.states i j) (rate_in i j (lasts r.states r.window offered))
  -- each stay has at least one hour
  pub most : (x : ℕ) → answer_of a ≡ accepted x → x ≤ 1000000
