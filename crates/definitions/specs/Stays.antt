-- Document 02, S-12, "Rates from the workshop log": stays, which of those offered are accepted, the last of these, their tally, and the rates.
-- States are counted from 1 here, as the lab logs them. A list of stays has the newest first.
use Rattle.std.specs.Prelude.{ℕ, suc, ◌+◌, ◌*◌, ◌/◌, ◌≤◌, List, [], ◌∷◌, ◌++◌, Bool, ◌&&◌, ◌||◌, ◌≡◌, length, take, eqb}
use Rattle.definitions.specs.Sums.{sum, pick}
use Rattle.definitions.specs.Rules.{Answer, accepted, refused, Rows, outside, state_row, judged_by}

-- "each stay: from state, to state, whole hours"
pub record Stay : Type 0 where
  pub from : ℕ
  pub to : ℕ
  pub hours : ℕ

abbrev pub stay_of : ℕ → ℕ → ℕ → Stay
stay_of i j h = record { from = i; to = j; hours = h }

-- "a state outside 1 to M or with both states the same"
abbrev pub no_pair : ℕ → ℕ → ℕ → Bool
no_pair M i j = outside 1 M i || outside 1 M j || eqb i j

-- what stops a start with M states and the window size W
abbrev pub start_rows : ℕ → ℕ → Rows
start_rows M W = state_row M ++ (22, outside 1 256 W) ∷ []

-- what stops the reading of a rate
abbrev pub pair_rows : ℕ → ℕ → ℕ → Rows
pair_rows M i j = (20, no_pair M i j) ∷ []

-- what stops a stay
abbrev pub stay_rows : ℕ → Stay → Rows
stay_rows M s = pair_rows M s.from s.to ++ (21, outside 1 10000 s.hours) ∷ []

-- what a stay is answered: it is taken, or refused
abbrev pub stay_answer : ℕ → Stay → Answer (Unit {0})
stay_answer M s = judged_by (stay_rows M s)

-- a where an answer accepts, b where it refuses
abbrev pub by_answer : {A B : Type 0} → Answer A → B → B → B
by_answer (accepted x) a b = a
by_answer (refused k) a b = b

-- of the stays offered, those that are accepted
unfoldable pub taken : ℕ → List Stay → List Stay
taken M [] = []
taken M (s ∷ earlier) = by_answer (stay_answer M s) (s ∷ taken M earlier) (taken M earlier)

-- "its last stays accepted, all of them up to the window size"
unfoldable pub lasts : ℕ → ℕ → List Stay → List Stay
lasts M W offered = take W (taken M offered)

-- the sum of what each stay of a list brings
unfoldable pub tally : (Stay → ℕ) → List Stay → ℕ
tally f [] = 0
tally f (s ∷ earlier) = f s + tally f earlier

-- a stay from i to j is one; a stay in i has its hours
unfoldable pub goes : ℕ → ℕ → Stay → ℕ
goes i j s = pick (eqb s.from i && eqb s.to j) 1 0

unfoldable pub spends : ℕ → Stay → ℕ
spends i s = pick (eqb s.from i) s.hours 0

-- a fresh tally: "the count of i to j", and "the hours in i"
abbrev pub count_in : ℕ → ℕ → List Stay → ℕ
count_in i j l = tally (goes i j) l

abbrev pub hours_in : ℕ → List Stay → ℕ
hours_in i l = tally (spends i) l

-- "the count of i to j times 1,000,000 over the hours in i, down, or 0 where i has no hours"
abbrev pub rate_of : ℕ → ℕ → ℕ
rate_of count hours = pick (eqb hours 0) 0 (count * 1000000 / hours)

abbrev pub rate_in : ℕ → ℕ → List Stay → ℕ
rate_in i j l = rate_of (count_in i j l) (hours_in i l)

-- what a record of stays tells: M, the window size, the count of i to j, and the hours in i
pub record Tallies : Type 0 where
  pub states : ℕ
  pub window : ℕ
  pub count : ℕ → ℕ → ℕ
  pub hours : ℕ → ℕ

-- "counts and hours equal a fresh tally of its last stays accepted, all of them up to the window size, and the counts sum to their number": of a record that
-- these stays were offered to
pub record Tallied (t : Tallies) (offered : List Stay) : Type 0 where
  pub counts : (i j : ℕ) → 1 ≤ i → i ≤ t.states → 1 ≤ j → j ≤ t.states → t.count i j ≡ count_in i j (lasts t.states t.window offered)
  pub hours : (i : ℕ) → 1 ≤ i → i ≤ t.states → t.hours i ≡ hours_in i (lasts t.states t.window offered)
  pub number : sum t.states (λ i. sum t.states (λ j. t.count (suc i) (suc j))) ≡ length (lasts t.states t.window offered)
