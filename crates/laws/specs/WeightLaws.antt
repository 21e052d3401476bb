-- The Poisson weights: the paper's steps away from m, their range, and where they are 0.
use Rattle.std.specs.Prelude.{ℕ, zero, suc, ◌+◌, ◌*◌, ◌-◌, ◌/◌, ◌^◌, ◌≤◌, ◌<◌, ◌≡◌}
use Rattle.std.proofs.Common.{arith, le_of_mul-le-mul_right, mul-le-mul_left, mul-le-mul_right, le_refl, pow-suc, add-zero, add-suc, sym, ◌∙◌, lt-ltb, le-ltb, add-one, ap, ap₂}
use Rattle.std.proofs.Math.Nat.{sub_self}
use Rattle.std.proofs.Math.Decide.{dec_lt, dec_le}
use Rattle.definitions.specs.Sums.{sum}
use Rattle.definitions.specs.Weights.{GREATEST, MILLION, mode, rightward, leftward, weight, weight_sum}
use Rattle.laws.specs.Rounding.{quotient_low, quotient_high, quotient_at_most}
use Rattle.laws.specs.SumLaws.{sum_mono, sum_constant, term_le_sum, sum_suc}

module _ (X : ℕ) where
  pub mode_low : mode X * MILLION ≤ X
  unfolding mode
  mode_low = quotient_low X MILLION

  pub mode_high : X < (mode X + 1) * MILLION
  unfolding mode
  mode_high = quotient_high X MILLION (omega arith)

  -- at and right of m, and left of m
  right_of : (n : ℕ) → mode X ≤ n → weight X n ≡ rightward X (n - mode X)
  unfolding weight
  right_of n h = rw (le-ltb n (mode X) h)

  left_of : (n : ℕ) → n < mode X → weight X n ≡ leftward X (mode X - n)
  unfolding weight
  left_of n h = rw (lt-ltb n (mode X) h)

  -- w(m) = 10^15
  pub weight_mode : weight X (mode X) ≡ GREATEST
  unfolding rightward
  weight_mode = right_of (mode X) (le_refl (mode X)) ∙ ap (rightward X) (sub_self (mode X))

  -- rightward: w(n+1) = w(n) × X over ((n+1) × 1,000,000), down
  pub weight_right : (n : ℕ) → mode X ≤ n → weight X (n + 1) ≡ weight X n * X / ((n + 1) * MILLION)
  unfolding rightward
  weight_right n h =
      right_of (n + 1) (omega arith)
      ∙ ap (rightward X) past
      ∙ ap₂ (λ (w d : ℕ). w * X / (d * MILLION)) (sym (right_of n h)) place
    where
      past : n + 1 - mode X ≡ suc (n - mode X)
      past = omega arith

      place : mode X + (n - mode X) + 1 ≡ n + 1
      place = omega arith

  -- leftward: w(n−1) = w(n) × n × 1,000,000 over X, down
  pub weight_left : (n : ℕ) → n < mode X → weight X n ≡ weight X (n + 1) * (n + 1) * MILLION / X
  unfolding leftward
  weight_left n h =
      left_of n h
      ∙ ap (leftward X) past
      ∙ ap₂ (λ (w d : ℕ). w * d * MILLION / X) (from (dec_lt (n + 1) (mode X))) place
    where
      past : mode X - n ≡ suc (mode X - (n + 1))
      past = omega arith

      place : mode X - (mode X - (n + 1)) ≡ n + 1
      place = omega arith

      from : Dec (n + 1 < mode X) → leftward X (mode X - (n + 1)) ≡ weight X (n + 1)
      from (yes l) = sym (left_of (n + 1) l)
      from (no l) = grind (arith, sub_self, weight_mode)

  -- away from m the weights do not rise
  pub falls_right : (n : ℕ) → mode X ≤ n → weight X (n + 1) ≤ weight X n
  falls_right n h =
      rw weight_right
      (quotient_at_most (weight X n * X) (weight X n) ((n + 1) * MILLION) (mul-le-mul_left (weight X n) (omega (arith, mode_high))))

  pub falls_far : (n k : ℕ) → mode X ≤ n → weight X (n + k) ≤ weight X n
  falls_far n zero h = rw add-zero (le_refl (weight X n))
  falls_far n (suc k) h =
      let next : weight X (n + k + 1) ≤ weight X (n + k) = falls_right (n + k) (omega arith) in
      rw (add-suc, ← add-one) (omega (arith, falls_far n k h))

  pub falls_left : (n : ℕ) → n < mode X → weight X n ≤ weight X (n + 1)
  falls_left n h =
      rw (weight_left n h)
      (quotient_at_most (weight X (n + 1) * (n + 1) * MILLION) (weight X (n + 1)) X
      (omega (arith, mul-le-mul_left (weight X (n + 1)) reach)))
    where
      reach : (n + 1) * MILLION ≤ X
      reach = omega (arith, mode_low)

  rises_far : (n k : ℕ) → n + k ≤ mode X → weight X n ≤ weight X (n + k)
  rises_far n zero h = rw add-zero (le_refl (weight X n))
  rises_far n (suc k) h = grind (arith, rises_far n k, falls_left, add-suc, add-one)

  -- no weight is above 10^15
  pub weight_max : (n : ℕ) → weight X n ≤ GREATEST
  weight_max n = from (dec_le (mode X) n)
    where
      from : Dec (mode X ≤ n) → weight X n ≤ GREATEST
      from (yes h) =
          let far : weight X (mode X + (n - mode X)) ≤ weight X (mode X) = falls_far (mode X) (n - mode X) (le_refl (mode X)) in
          let here : mode X + (n - mode X) ≡ n = omega arith in
          omega (arith, ap (weight X) here, weight_mode)
      from (no l) =
          let far : weight X n ≤ weight X (n + (mode X - n)) = rises_far n (mode X - n) (omega (arith, l)) in
          let here : n + (mode X - n) ≡ mode X = omega (arith, l) in
          omega (arith, ap (weight X) here, weight_mode)

  -- 10^15 ≤ S(n) from m on, and S(n) ≤ (n + 1) × 10^15
  pub weight_sum_min : (n : ℕ) → mode X ≤ n → GREATEST ≤ weight_sum X n
  unfolding weight_sum
  weight_sum_min n h = omega (arith, term_le_sum (suc n) (weight X) (mode X) (omega arith), weight_mode)

  pub weight_sum_max : (n : ℕ) → weight_sum X n ≤ (n + 1) * GREATEST
  unfolding weight_sum
  weight_sum_max n = omega (arith, sum_mono (suc n) (weight X) (λ i. GREATEST) (λ i l. weight_max i), sum_constant (suc n) GREATEST)

  -- S(n + 1) = S(n) + w(n + 1)
  pub weight_sum_next : (n : ℕ) → weight_sum X (n + 1) ≡ weight_sum X n + weight X (n + 1)
  unfolding weight_sum
  weight_sum_next n = rw add-one (sum_suc (suc n) (weight X))

  -- S(m) is w(m) and the weights below m
  pub weight_sum_mode : GREATEST + sum (mode X) (weight X) ≡ weight_sum X (mode X)
  unfolding weight_sum
  weight_sum_mode = omega (arith, sum_suc (mode X) (weight X), weight_mode)

  -- from 2m + 1 on each weight is at most half of the one before
  pub halves : (n : ℕ) → 2 * mode X + 1 ≤ n → weight X (n + 1) * 2 ≤ weight X n
  halves n h =
      rw (weight_right n (omega arith))
      (le_of_mul-le-mul_right {k = (n + 1) * MILLION}
      (omega (arith, quotient_low (weight X n * X) ((n + 1) * MILLION), mul-le-mul_left (weight X n) small))
      (omega arith))
    where
      small : 2 * X ≤ (n + 1) * MILLION
      small = omega (arith, mode_high)

  halved : (k : ℕ) → weight X (2 * mode X + 1 + k) * 2 ^ k ≤ GREATEST
  halved zero = omega (arith, weight_max (2 * mode X + 1 + 0))
  halved (suc k) =
      let next : weight X (2 * mode X + 1 + k + 1) * 2 ≤ weight X (2 * mode X + 1 + k) = halves (2 * mode X + 1 + k) (omega arith) in
      rw (add-suc, ← add-one, pow-suc) (omega (arith, halved k, mul-le-mul_right (2 ^ k) next))

  -- from 2m + 51 on all weights are 0: 10^15 is below 2^50
  pub weight_gone : (n : ℕ) → 2 * mode X + 51 ≤ n → weight X n ≡ 0
  weight_gone n h =
      let far : weight X (2 * mode X + 51 + (n - (2 * mode X + 51))) ≤ weight X (2 * mode X + 51) =
      falls_far (2 * mode X + 51) (n - (2 * mode X + 51)) (omega arith) in
      let here : 2 * mode X + 51 + (n - (2 * mode X + 51)) ≡ n = omega arith in
      let start : 2 * mode X + 1 + 50 ≡ 2 * mode X + 51 = omega arith in
      omega (arith, ap (weight X) here, halved 50, ap (weight X) start)
