-- The test of a number's limits, and single rows of the tables, from the numbers that they compare: 4 and 5, 8 and 15, of a list of times, 16, 9 to 13, and 17.
use Rattle.std.specs.Prelude.{ℕ, zero, suc, ◌+◌, ◌-◌, ◌≤◌, ◌<◌, ◌≡◌, refl, Bool, true, false, ◌||◌, List, eqb, leb, get_or, not}
use Rattle.std.proofs.Common.{arith, ◌∙◌, ap₂, le-leb, lt-ltb, le-ltb, ap}
use Rattle.std.proofs.Math.Decide.{dec_le}
use Rattle.std.proofs.Math.Bool.{or-true}
use Rattle.definitions.specs.Sums.{sum, largest, any_above}
use Rattle.definitions.specs.File.{state_count, reward_field}
use Rattle.definitions.specs.Chain.{Model, model_of, row_sum, uniform_rate, max_reward}
use Rattle.definitions.specs.Rules.{accepted, refused, outside, dimensions, misweighted, falls_up_to, jumps, room, judged_by}
use Rattle.laws.specs.SumLaws.{any_largest, le_largest, largest_le}
use Rattle.laws.specs.RuleLaws.{row_stops, row_passes, none_left, NoneHold, none_hold}

-- a number that is not outside is from low to high, and the other way about
pub in_range : (low high x : ℕ) → outside low high x ≡ false → (low ≤ x) × (x ≤ high)
in_range low high x h = grind arith

pub is_inside : (low high x : ℕ) → low ≤ x → x ≤ high → outside low high x ≡ false
is_inside low high x l h = ap₂ ◌||◌ (le-ltb x low l) (le-ltb high x h)

-- what rows 4 and 5 let pass
pub dimensions_by : (M R : ℕ) → NoneHold (dimensions M R) → ((1 ≤ M) × (M ≤ 64)) × ((1 ≤ R) × (R ≤ 8))
dimensions_by M R row = grind arith

pub in_dimensions : (M R : ℕ) → judged_by (dimensions M R) ≡ accepted tt → ((1 ≤ M) × (M ≤ 64)) × ((1 ≤ R) × (R ≤ 8))
in_dimensions M R passed = dimensions_by M R (none_hold (dimensions M R) (tt {0}) tt passed)

-- row 16: a model without a starting distribution passes; with one it is the test of the weights' sum
pub no_start : (m : Model) → m.distributions ≡ 0 → misweighted m ≡ false
no_start m e = grind arith

pub with_start : (m : Model) → 0 < m.distributions → misweighted m ≡ not (eqb (sum m.states m.start) 1000000)
with_start m h = grind arith

-- where it passes, the weights of a starting distribution sum to 1,000,000
pub weights_by : (m : Model) → misweighted m ≡ false → 0 < m.distributions → sum m.states m.start ≡ 1000000
weights_by m h some = grind arith

-- row 15: no time is compared yet
pub none_compared : (t : List ℕ) → falls_up_to 0 t ≡ false
unfolding falls_up_to
none_compared t = refl

-- one more time, above the one before it
pub rises_to : (t : List ℕ) (k : ℕ) → 1 ≤ k → falls_up_to (k - 1) t ≡ false → get_or t (k - 1) 0 < get_or t k 0 → falls_up_to k t ≡ false
unfolding falls_up_to
rises_to t k low before above = grind arith

-- a time that is not above the one before it is found, however many are compared
pub falls_at : (t : List ℕ) (k n : ℕ) → 1 ≤ k → k ≤ n → get_or t k 0 ≤ get_or t (k - 1) 0 → falls_up_to n t ≡ true
unfolding falls_up_to
falls_at t k zero low high fallen = absurd (omega arith)
falls_at t k (suc n) low high fallen =
    elim (dec_le k n) [
      | yes before ↦ ap (λ (a : Bool). a || leb (get_or t (suc n) 0) (get_or t n 0)) (falls_at t k n low before fallen)
      | no last ↦
          let here : k ≡ suc n = omega (arith, last) in
          let same : suc n - 1 ≡ n = omega arith in
          ap (λ (b : Bool). falls_up_to n t || b) (le-leb (get_or t (suc n) 0) (get_or t n 0) (rw (here, same) at fallen)) ∙ or-true (falls_up_to n t)
    ]

-- rows 9, 10, 11 and 17, the tests over states, from the largest entry
above : (k n : ℕ) (f : ℕ → ℕ) → k < largest n f → any_above k n f ≡ true
above k n f h = any_largest k n f ∙ lt-ltb k (largest n f) h

pub not_above : (k n : ℕ) (f : ℕ → ℕ) → largest n f ≤ k → any_above k n f ≡ false
not_above k n f h = any_largest k n f ∙ le-ltb k (largest n f) h

module _ (s : List ℕ) where
  pub rewards_over : 1000000 < max_reward (model_of s) → any_above 1000000 (state_count s) (reward_field s) ≡ true
  unfolding max_reward
  rewards_over h = above 1000000 (state_count s) (reward_field s) h

  pub rewards_within : max_reward (model_of s) ≤ 1000000 → any_above 1000000 (state_count s) (reward_field s) ≡ false
  unfolding max_reward
  rewards_within h = not_above 1000000 (state_count s) (reward_field s) h

  pub no_reward : max_reward (model_of s) ≤ 0 → not (any_above 0 (state_count s) (reward_field s)) ≡ true
  unfolding max_reward
  no_reward h = ap not (not_above 0 (state_count s) (reward_field s) h)

  pub some_reward : 0 < max_reward (model_of s) → not (any_above 0 (state_count s) (reward_field s)) ≡ false
  unfolding max_reward
  some_reward h = ap not (above 0 (state_count s) (reward_field s) h)

  -- some row sum is above its limit just where E is
  pub sums_over : 10000000 < uniform_rate (model_of s) → any_above 10000000 (state_count s) (row_sum (model_of s)) ≡ true
  unfolding uniform_rate
  sums_over h = above 10000000 (state_count s) (row_sum (model_of s)) (omega arith)

  pub sums_within : uniform_rate (model_of s) ≤ 10000000 → any_above 10000000 (state_count s) (row_sum (model_of s)) ≡ false
  unfolding uniform_rate
  sums_within h = not_above 10000000 (state_count s) (row_sum (model_of s)) (omega arith)

-- row 17, of n weights: it holds where one but the first is above 0
pub weight_found : (n : ℕ) (a : ℕ → ℕ) (i : ℕ) → 1 ≤ i → i < n → 0 < a i → any_above 0 (n - 1) (λ k. a (k + 1)) ≡ true
weight_found n a i low high some =
    let place : i - 1 + 1 ≡ i = omega arith in
    above 0 (n - 1) (λ k. a (k + 1)) (omega (arith, some, ap a place, le_largest (n - 1) (λ k. a (k + 1)) (i - 1) (omega arith)))

-- and passes where all but the first are 0
pub none_found : (n : ℕ) (a : ℕ → ℕ) → ((i : ℕ) → 1 ≤ i → i < n → a i ≡ 0) → any_above 0 (n - 1) (λ k. a (k + 1)) ≡ false
none_found n a zeros = not_above 0 (n - 1) (λ k. a (k + 1)) (largest_le (n - 1) 0 (λ k. a (k + 1)) (λ k h. omega (arith, zeros (k + 1) (omega arith) (omega arith))))

-- row 12: with equal numbers it answers the same
pub same_jumps : {E' T' : ℕ} (E T : ℕ) → E' ≡ E → T' ≡ T → judged_by (jumps E' T') ≡ judged_by (jumps E T)
same_jumps E T e t = rw (e, t) refl

-- row 13: with equal numbers it answers the same
pub same_room : {needed' lent' : ℕ} (needed lent : ℕ) → needed' ≡ needed → lent' ≡ lent → judged_by (room needed' lent') ≡ judged_by (room needed lent)
same_room needed lent n l = rw (n, l) refl

-- fewer lent than needed, and enough
pub too_few : (needed lent : ℕ) → lent < needed → judged_by (room needed lent) ≡ refused 13
unfolding room
too_few needed lent h = row_stops 13 _ _ _ (lt-ltb lent needed h)

pub enough : (needed lent : ℕ) → needed ≤ lent → judged_by (room needed lent) ≡ accepted tt
unfolding room
enough needed lent h = row_passes 13 _ _ _ (le-ltb lent needed h) ∙ none_left tt
