-- Document 02, S-7, "Sum only the arrows, last first": the list of a row's arrows, the row mean over it, and the calculation with that row mean, beside
-- document 01's own.
use Rattle.std.specs.Prelude.{ℕ, zero, suc, ◌+◌, ◌*◌, ◌-◌, ◌/◌, ◌<◌, max, List, [], ◌∷◌, Bool, true, false, not, ◌&&◌, ◌||◌, ◌≡◌, eqb, ltb, length, get_or, take, drop}
use Rattle.definitions.specs.Sums.{largest, pick}
use Rattle.definitions.specs.Chain.{Model, Listing, chain_of}
use Rattle.definitions.specs.Vectors.{ONE, reward_share, mix, first_vectors, U}
use Rattle.definitions.specs.Level.{level}
use Rattle.definitions.specs.Moment.{weighted_mean, moment, model_level}

-- 1. Lists of states.

-- the states below n that pass a test, highest first
unfoldable pub falling : (ℕ → Bool) → ℕ → List ℕ
falling passes zero = []
falling passes (suc n) = pick (passes n) (n ∷ falling passes n) (falling passes n)

-- whether j is in a list
unfoldable pub is_in : ℕ → List ℕ → Bool
is_in j [] = false
is_in j (x ∷ l) = eqb j x || is_in j l

-- a list without the state i
unfoldable pub others : ℕ → List ℕ → List ℕ
others i [] = []
others i (x ∷ l) = pick (eqb x i) (others i l) (x ∷ others i l)

-- f at each state of a list added to a total, the first of the list first
unfoldable pub add_up : ℕ → List ℕ → (ℕ → ℕ) → ℕ
add_up total [] f = total
add_up total (x ∷ l) f = add_up (total + f x) l f

-- 2. The arrows of a row.

-- there is an arrow from i to j: j is another state, and the rate is above 0
abbrev pub is_arrow : Model → ℕ → ℕ → Bool
is_arrow m i j = not (eqb j i) && ltb 0 (m.transition i j)

-- row i's arrows, highest first
unfoldable pub arrows : Model → ℕ → List ℕ
arrows m i = falling (is_arrow m i) m.states

-- "every other state with a rate above 0 once, highest first, and no more": j is in the list exactly when it is a state, another one than i, with a rate
-- above 0; and the list falls strictly
pub record ListsArrows (m : Model) (i : ℕ) (l : List ℕ) : Type 0 where
  pub exactly : (j : ℕ) → is_in j l ≡ (ltb j m.states && (not (eqb j i) && ltb 0 (m.transition i j)))
  pub falls : (k : ℕ) → suc k < length l → get_or l (suc k) 0 < get_or l k 0

-- the states that row i's mean adds: those with a rate above 0, and the diagonal in its own place among them
abbrev pub is_added : Model → ℕ → ℕ → Bool
is_added m i j = eqb j i || ltb 0 (m.transition i j)

unfoldable pub added_states : Model → ℕ → List ℕ
added_states m i = falling (is_added m i) m.states

-- the states in the places of row i
abbrev pub states_in : ℕ → Listing → ℕ → List ℕ
states_in M a i = take (get_or a.counts i 0) (drop (i * M) a.targets)

-- a row as it is lent to the steps: with the diagonal apart it is the list of the row's arrows, and the diagonal is in it, in its own place, since the
-- whole list falls strictly
pub record ListsRow (m : Model) (i : ℕ) (l : List ℕ) : Type 0 where
  pub the_arrows : ListsArrows m i (others i l)
  pub diagonal : is_in i l ≡ true
  pub falls : (k : ℕ) → suc k < length l → get_or l (suc k) 0 < get_or l k 0

-- all rows, as they are lent
pub record ListsRows (m : Model) (a : Listing) : Type 0 where
  pub row : (i : ℕ) → i < m.states → ListsRow m i (states_in m.states a i)

-- 3. The calculation with sums over the arrows alone, last first.

-- row i's sum
unfoldable pub arrow_sum : Model → ℕ → ℕ
arrow_sum m i = add_up 0 (arrows m i) (m.transition i)

-- E
unfoldable pub arrow_rate : Model → ℕ
arrow_rate m = max 1 (largest m.states (arrow_sum m))

-- c(i,j)
unfoldable pub arrow_entry : Model → ℕ → ℕ → ℕ
arrow_entry m i j = pick (eqb j i) (arrow_rate m - arrow_sum m i) (m.transition i j)

-- V, the row mean of v at i
unfoldable pub arrow_mean : Model → (ℕ → ℕ) → ℕ → ℕ
arrow_mean m v i = add_up 0 (added_states m i) (λ j. arrow_entry m i j * v j) / arrow_rate m

-- U(n,r) at i for n ≥ 1, where before is U(n−1,·)
unfoldable pub next_by_arrows : Model → ℕ → (ℕ → ℕ → ℕ) → ℕ → ℕ → ℕ
next_by_arrows m n before zero i = ONE
next_by_arrows m n before (suc r) i =
    mix n (suc r) (arrow_mean m (before (suc r)) i) (reward_share (chain_of m) (next_by_arrows m n before r i) i)

-- U(n,r) at i
unfoldable pub UByArrows : Model → ℕ → ℕ → ℕ → ℕ
UByArrows m zero = first_vectors (chain_of m)
UByArrows m (suc n) = next_by_arrows m (suc n) (UByArrows m n)

-- N
unfoldable pub level_by_arrows : Model → ℕ
level_by_arrows m = level (arrow_rate m * m.time) m.tolerance

-- the moment r of state i, in ticks, at level N
unfoldable pub moment_by_arrows : Model → ℕ → ℕ → ℕ → ℕ
moment_by_arrows m N r i = weighted_mean (arrow_rate m * m.time) (λ n. UByArrows m n r i) N

-- "Vectors, levels and moments are shown equal to those of the old order"
pub record SameByArrows (m : Model) : Type 0 where
  pub vectors : (n r i : ℕ) → UByArrows m n r i ≡ U (chain_of m) n r i
  pub levels : level_by_arrows m ≡ model_level m
  pub moments : (N r i : ℕ) → moment_by_arrows m N r i ≡ moment m N r i
