-- A whole log in one call: a start, its stays one after another, and then every rate. It is of no paper: a record does not pass to C, and what a record
-- tells is a function of the stays offered to it.
use Rattle.std.specs.Prelude.{ℕ, zero, suc, ◌+◌, ◌*◌, ◌-◌, ◌/◌, ◌%◌, ◌≤◌, ◌<◌, List, [], ◌∷◌, ◌++◌, false, not, ◌||◌, ◌≡◌, length, get_or, take, ltb, eqb}
use Rattle.definitions.specs.Sums.{any_above, over, blocks, pick}
use Rattle.definitions.specs.File.{state_count}
use Rattle.definitions.specs.Chain.{model_of, row_sum}
use Rattle.definitions.specs.Rules.{Answer, accepted, refused, Rows, room, first_held}
use Rattle.definitions.specs.Fields.{fields_of}
use Rattle.definitions.specs.Stays.{Stay, stay_of, start_rows, stay_answer, taken, lasts, rate_in}

-- a log is a list of numbers, three for each stay, the oldest first. Its stay k, counted from 0:
abbrev pub stay_at : List ℕ → ℕ → Stay
stay_at log k = stay_of (get_or log (k * 3) 0) (get_or log (k * 3 + 1) 0) (get_or log (k * 3 + 2) 0)

-- its first n stays, as they are offered: the newest first
unfoldable pub offers : List ℕ → ℕ → List Stay
offers log zero = []
offers log (suc n) = stay_at log n ∷ offers log n

-- how many stays it has, and all of them
abbrev pub stay_count : List ℕ → ℕ
stay_count log = length log / 3

abbrev pub offered : List ℕ → List Stay
offered log = offers log (stay_count log)

-- a log has at most so many stays: the number of those accepted goes out beside refusals, which start from 1,000,000
abbrev pub most_stays : ℕ
most_stays = 999999

-- row 6: a list of so many numbers is no whole number of stays, or has too many of them
abbrev pub size_row : ℕ → Rows
size_row size = (6, not (eqb (size % 3) 0) || ltb most_stays (size / 3)) ∷ []

-- what stops the call: a start's rows, row 6, and row 13 for the answers' cells and for the rates'
unfoldable pub log_rows : ℕ → ℕ → ℕ → ℕ → ℕ → Rows
log_rows M W size answers rates =
    start_rows M W
    ++ size_row size
    ++ room (size / 3) answers
    ++ room (M * (M - 1)) rates

-- what it answers: the number of stays accepted, or the first row that holds
unfoldable pub log_outcome : ℕ → ℕ → List ℕ → ℕ → ℕ → Answer ℕ
log_outcome M W log answers rates = first_held (log_rows M W (length log) answers rates) (length (taken M (offered log)))

-- the number of an answer to a stay: 0 where it is taken, else that of its refusal
abbrev pub answer_number : Answer (Unit {0}) → ℕ
answer_number (accepted x) = 0
answer_number (refused k) = k

-- the cells for the answers, one for each stay: what they hold after a call, from what they held before. A refusal leaves all.
abbrev pub answers_after : Answer ℕ → ℕ → List ℕ → List ℕ → List ℕ
answers_after (accepted n) M log cells = over (stay_count log) (λ k. answer_number (stay_answer M (stay_at log k))) cells
answers_after (refused k) M log cells = cells

-- the state at place k of row i, both counted from 0, the diagonal left out: k before it, k + 1 after it
abbrev pub state_at : ℕ → ℕ → ℕ
state_at i k = pick (ltb k i) k (k + 1)

-- the cells for the rates, M rows of M − 1 in the order of a model file, likewise
abbrev pub rates_after : Answer ℕ → ℕ → ℕ → List ℕ → List ℕ → List ℕ
rates_after (accepted n) M W log cells = blocks (M - 1) M (λ i k. rate_in (i + 1) (state_at i k + 1) (lasts M W (offered log))) cells
rates_after (refused k) M W log cells = cells

-- a call with a log: its answer, and the cells after it from those before it. A rate is at most 1,000,000; a file that states the rates has no row that sums to
-- more, so that row 11 never stops it.
pub record RatesFromLog (M W : ℕ) (log : List ℕ) (a : Answer ℕ) (answers answered rates read : List ℕ) : Type 0 where
  pub answer : a ≡ log_outcome M W log (length answers) (length rates)
  pub stays : answered ≡ answers_after a M log answers
  pub readings : read ≡ rates_after a M W log rates
  pub most : (n : ℕ) → a ≡ accepted n → (p : ℕ) → p < M * (M - 1) → get_or read p 0 ≤ 1000000
  pub sums : (n : ℕ) → a ≡ accepted n → (s : List ℕ) → state_count s ≡ M → (fields_of s).rates ≡ take (M * (M - 1)) read → (i : ℕ) → i < M → row_sum (model_of s) i ≤ 1000000
  pub row_11 : (n : ℕ) → a ≡ accepted n → (s : List ℕ) → state_count s ≡ M → (fields_of s).rates ≡ take (M * (M - 1)) read → any_above 10000000 (state_count s) (row_sum (model_of s)) ≡ false
