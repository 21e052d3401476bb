-- A log and what a record of it tells, checked by hand, and calls that did otherwise.
use Rattle.std.specs.Prelude.{ℕ, List, [], ◌∷◌, ◌≡◌, refl, get_or, replicate}
use Rattle.std.proofs.Common.{arith, ap}
use Rattle.definitions.specs.Sums.{sum, firsts, over, blocks}
use Rattle.definitions.specs.Rules.{Answer, accepted, refused, room, first_held, judged_by}
use Rattle.definitions.specs.Stays.{Stay, stay_of, start_rows, stay_answer, taken, lasts, tally, goes, spends, count_in, hours_in, Tallies, Tallied}
use Rattle.definitions.specs.Log.{offers, offered, log_rows, log_outcome, answers_after, rates_after, RatesFromLog}

-- Three states. Oldest first: 1 to 2 after 10 hours, 2 to 1 after 4, 1 to 3 after 20; then 1 to 1, and 3 to 1 after no hour, which are refused; 1 to 2 after 30.
abbrev pub log : List ℕ
log = 1 ∷ 2 ∷ 10 ∷ 2 ∷ 1 ∷ 4 ∷ 1 ∷ 3 ∷ 20 ∷ 1 ∷ 1 ∷ 5 ∷ 3 ∷ 1 ∷ 0 ∷ 1 ∷ 2 ∷ 30 ∷ []

-- with a window of 3 the first stay has left: 50 hours in state 1, 4 in state 2
abbrev pub kept : List Stay
kept = stay_of 1 2 30 ∷ stay_of 1 3 20 ∷ stay_of 2 1 4 ∷ []

pub kept_by_hand : lasts 3 3 (offered log) ≡ kept
unfolding first_held taken lasts offers
kept_by_hand = refl

-- one cell more than needed
abbrev pub lent : List ℕ
lent = replicate 7 7

-- 1 to 2 and 1 to 3 at 1,000,000 over 50; 2 to 1 at 1,000,000 over 4
pub by_hand : (log_outcome 3 3 log 7 7 ≡ accepted 4) × (answers_after (accepted 4) 3 log lent ≡ 0 ∷ 0 ∷ 0 ∷ 20 ∷ 21 ∷ 0 ∷ 7 ∷ []) × (rates_after (accepted 4) 3 3 log lent ≡ 20000 ∷ 20000 ∷ 250000 ∷ 0 ∷ 0 ∷ 0 ∷ 7 ∷ [])
unfolding firsts over blocks room first_held taken lasts tally goes spends offers log_rows log_outcome
by_hand = (refl, refl, refl)

-- with a window of 256 the first stay counts too: 2 × 1,000,000 over 60 hours, down
pub whole_window : rates_after (accepted 4) 3 256 log (replicate 6 7) ≡ 33333 ∷ 16666 ∷ 250000 ∷ 0 ∷ 0 ∷ 0 ∷ []
unfolding firsts over blocks first_held taken lasts tally goes spends offers
whole_window = refl

-- the tables, from a first number that is out of range to the next
abbrev pub AllAre : List (Answer (Unit {0}) × Answer (Unit {0})) → Type 0
AllAre [] = Unit {0}
AllAre (a ∷ rest) = (a.0 ≡ a.1) × AllAre rest

pub tables :
    AllAre
    ((judged_by (start_rows 0 0), refused 4)
    ∷ (judged_by (start_rows 65 257), refused 4)
    ∷ (judged_by (start_rows 64 0), refused 22)
    ∷ (judged_by (start_rows 1 257), refused 22)
    ∷ (judged_by (start_rows 64 256), accepted tt)
    ∷ (judged_by (start_rows 1 1), accepted tt)
    ∷ (stay_answer 3 (stay_of 0 1 0), refused 20)
    ∷ (stay_answer 3 (stay_of 1 4 0), refused 20)
    ∷ (stay_answer 3 (stay_of 2 2 10001), refused 20)
    ∷ (stay_answer 3 (stay_of 3 1 0), refused 21)
    ∷ (stay_answer 3 (stay_of 1 3 10001), refused 21)
    ∷ (stay_answer 3 (stay_of 1 3 10000), accepted tt)
    ∷ (stay_answer 3 (stay_of 3 1 1), accepted tt)
    ∷ [])
unfolding first_held
tables = (refl, (refl, (refl, (refl, (refl, (refl, (refl, (refl, (refl, (refl, (refl, (refl, (refl, tt)))))))))))))

pub log_refused :
    (log_outcome 3 257 (1 ∷ []) 0 0 ≡ refused 22) × (log_outcome 3 3 (1 ∷ []) 0 0 ≡ refused 6) × (log_outcome 3 3 log 5 6 ≡ refused 13) × (log_outcome 3 3 log 6 5 ≡ refused 13) × (log_outcome 1 1 [] 0 0 ≡ accepted 0)
unfolding room first_held taken offers log_rows log_outcome
log_refused = (refl, refl, refl, refl, refl)

-- calls that count a refused stay, answer it 0, leave another rate, or write past the rates or on a refusal
pub another_count : (answered read : List ℕ) → RatesFromLog 3 3 log (accepted 6) lent answered lent read → ⊥
unfolding room first_held taken offers log_rows log_outcome
another_count answered read h =
    let told : ◌≡◌ {A = Answer ℕ} (accepted 6) (accepted 4) = h.answer in
    let same : ◌≡◌ {A = ℕ} 6 4 = cc in
    omega arith

pub another_answer : (read : List ℕ) → RatesFromLog 3 3 log (accepted 4) lent (0 ∷ 0 ∷ 0 ∷ 0 ∷ 21 ∷ 0 ∷ 7 ∷ []) lent read → ⊥
unfolding firsts over first_held
another_answer read h = omega (arith, ap (λ (l : List ℕ). get_or l 3 0) h.stays)

pub another_rate : (answered : List ℕ) → RatesFromLog 3 3 log (accepted 4) lent answered lent (33333 ∷ 16666 ∷ 250000 ∷ 0 ∷ 0 ∷ 0 ∷ 7 ∷ []) → ⊥
unfolding firsts over blocks first_held taken lasts tally goes spends offers
another_rate answered h = omega (arith, ap (λ (l : List ℕ). get_or l 0 0) h.readings)

pub another_cell : (answered : List ℕ) → RatesFromLog 3 3 log (accepted 4) lent answered lent (20000 ∷ 20000 ∷ 250000 ∷ 0 ∷ 0 ∷ 0 ∷ 0 ∷ []) → ⊥
unfolding firsts over blocks first_held taken lasts tally goes spends offers
another_cell answered h = omega (arith, ap (λ (l : List ℕ). get_or l 6 0) h.readings)

pub cell_on_a_refusal : (answered : List ℕ) → RatesFromLog 3 3 log (refused 13) (replicate 5 7) answered lent (replicate 7 0) → ⊥
cell_on_a_refusal answered h = omega (arith, ap (λ (l : List ℕ). get_or l 0 0) h.readings)

-- what a record tells after this log; and one whose counts, hours or number are others
abbrev pub telling : (ℕ → ℕ → ℕ) → (ℕ → ℕ) → Tallies
telling count hours = record { states = 3; window = 3; count = count; hours = hours }

pub tallied_by_hand : Tallied (telling (λ i j. count_in i j kept) (λ i. hours_in i kept)) (offered log)
unfolding sum tally goes spends
tallied_by_hand = record { counts = λ i j a b c d. rw kept_by_hand refl; hours = λ i a b. rw kept_by_hand refl; number = rw kept_by_hand refl }

pub another_tally : (hours : ℕ → ℕ) → Tallied (telling (λ i j. count_in i j (stay_of 1 2 10 ∷ kept)) hours) (offered log) → ⊥
unfolding first_held taken lasts offers tally goes
another_tally hours h = omega (arith, h.counts 1 2 (omega arith) (omega arith) (omega arith) (omega arith))

pub other_hours : (count : ℕ → ℕ → ℕ) → Tallied (telling count (λ i. hours_in i (stay_of 1 2 10 ∷ kept))) (offered log) → ⊥
unfolding first_held taken lasts offers tally spends
other_hours count h = omega (arith, h.hours 1 (omega arith) (omega arith))
