-- The weights' error. The exact weights of 0 to L are put over one common divisor, where they are the whole numbers z(0), …, z(L).
-- Then w(n)·z(m) ≤ 10^15·z(n) ≤ (w(n) + |n − m|)·z(m), and the exact weights past the level stay within the tolerance.
use Rattle.std.specs.Prelude.{ℕ, zero, suc, ◌+◌, ◌*◌, ◌-◌, ◌/◌, ◌≤◌, ◌<◌, ◌≡◌}
use Rattle.std.proofs.Common.{arith, mul-le-mul_left, mul-le-mul_right, le_of_mul-le-mul_right, mul_assoc, le_of_lt, add-one, sym, ◌∙◌, mul-pos, add-suc, add-zero, ap}
use Rattle.std.proofs.Math.Nat.{sub-zero}
use Rattle.std.proofs.Math.Decide.{dec_le}
use Rattle.definitions.specs.Weights.{GREATEST, MILLION, mode, weight}
use Rattle.definitions.specs.Fraction.{ratio, power}
use Rattle.definitions.specs.Average.{factorial, exact_weight, million_pos}
use Rattle.laws.specs.Rounding.{quotient_low, quotient_high}
use Rattle.laws.specs.WeightLaws.{mode_low, mode_high, weight_mode, weight_right, weight_left}

-- the divisors of the steps from n to n + k, multiplied: (n+1)·1,000,000 × … × (n+k)·1,000,000
unfoldable pub steps : ℕ → ℕ → ℕ
steps n zero = 1
steps n (suc k) = steps n k * ((n + suc k) * MILLION)

module _ (X : ℕ) where
  -- the common divisor up to L
  abbrev pub divisor : ℕ → ℕ
  divisor L = (exact_weight X L).den

  -- z(n), for L = n + k
  unfoldable pub z_at : ℕ → ℕ → ℕ
  z_at n k = (exact_weight X n).num * steps n k

  -- z(n) up to L
  unfoldable pub z : ℕ → ℕ → ℕ
  z L n = z_at n (L - n)

  divisor_steps : (n k : ℕ) → divisor n * steps n k ≡ divisor (n + k)
  unfolding steps exact_weight power factorial
  divisor_steps n zero = rw add-zero (omega arith)
  divisor_steps n (suc k) = rw add-suc (omega (arith, ap (λ (v : ℕ). v * (suc (n + k) * MILLION)) (divisor_steps n k)))

  -- the first of k + 1 steps taken apart
  steps_first : (n k : ℕ) → steps n (suc k) ≡ (suc n * MILLION) * steps (suc n) k
  unfolding steps
  steps_first n zero = rw add-suc (omega arith)
  steps_first n (suc k) = omega (arith, ap (λ (v : ℕ). v * ((n + suc (suc k)) * MILLION)) (steps_first n k))

  -- z(n+1) × (n+1) × 1,000,000 = z(n) × X
  z_at_next : (n k : ℕ) → z_at (suc n) k * (suc n * MILLION) ≡ z_at n (suc k) * X
  unfolding z_at exact_weight power
  z_at_next n k = omega (arith, ap (λ (v : ℕ). (power (ratio X MILLION million_pos) n).num * X * v) (steps_first n k))

  -- the same up to L, for n < L
  pub z_next : (L n : ℕ) → n < L → z L (n + 1) * ((n + 1) * MILLION) ≡ z L n * X
  unfolding z
  z_next L n h =
      let one : L - n ≡ suc (L - (n + 1)) = omega arith in
      rw (one, add-one) (z_at_next n (L - suc n))

  -- the exact weight of n is z(n) over the common divisor
  pub over_divisor : (L n : ℕ) → n ≤ L → z L n * (exact_weight X n).den ≡ (exact_weight X n).num * divisor L
  unfolding z z_at
  over_divisor L n h =
      let reach : n + (L - n) ≡ L = omega arith in
      omega (arith, ap (λ (v : ℕ). (exact_weight X n).num * v) (divisor_steps n (L - n) ∙ ap divisor reach))

  -- no exact weight is 0
  steps_pos : (n k : ℕ) → 0 < steps n k
  unfolding steps
  steps_pos n zero = omega arith
  steps_pos n (suc k) = mul-pos (steps_pos n k) (omega arith)

-- |n − m|
unfoldable pub distance : ℕ → ℕ → ℕ
distance n m = n - m + (m - n)

-- a weight and its exact weight up to L, scaled so that the weight of m is 10^15
pub record Held (X L n : ℕ) : Type 0 where
  pub low : weight X n * z X L (mode X) ≤ GREATEST * z X L n
  pub high : GREATEST * z X L n ≤ (weight X n + distance n (mode X)) * z X L (mode X)

-- one step away from m, rightward or leftward: w' is w × a over b, down, and z' × b = z × a
step_low : (w w' a b z z' zm : ℕ) → 0 < b → w' * b ≤ w * a → z' * b ≡ z * a → w * zm ≤ GREATEST * z → w' * zm ≤ GREATEST * z'
step_low w w' a b z z' zm pos q e h =
    le_of_mul-le-mul_right {k = b}
    (omega (arith, mul-le-mul_right zm q, mul-le-mul_right a h, ap (λ (v : ℕ). GREATEST * v) e))
    pos

step_high : (w w' a b z z' zm d : ℕ) → 0 < b → w * a < (w' + 1) * b → a ≤ b → z' * b ≡ z * a → GREATEST * z ≤ (w + d) * zm → GREATEST * z' ≤ (w' + (d + 1)) * zm
step_high w w' a b z z' zm d pos q less e h =
    le_of_mul-le-mul_right {k = b}
    (omega (arith, mul-le-mul_right zm (le_of_lt q), mul-le-mul_right a h, ap (λ (v : ℕ). GREATEST * v) e, mul-le-mul_left (d * zm) less))
    pos

module _ (X : ℕ) (X_pos : 0 < X) (L : ℕ) (mode_in : mode X ≤ L) where
  abbrev m : ℕ
  m = mode X

  abbrev zm : ℕ
  zm = z X L (mode X)

  held_mode : Held X L m
  unfolding distance
  held_mode = record { low = omega (arith, ap (λ (v : ℕ). v * zm) (weight_mode X)); high = omega (arith, ap (λ (v : ℕ). v * zm) (weight_mode X)) }

  held_right : (n : ℕ) → m ≤ n → n < L → Held X L n → Held X L (n + 1)
  unfolding distance
  held_right n low high h =
      let D : ℕ = (n + 1) * MILLION in
      let pos : 0 < D = omega arith in
      let w' : weight X (n + 1) ≡ weight X n * X / D = weight_right X n low in
      let apart : n + 1 - m + (m - (n + 1)) ≡ n - m + (m - n) + 1 = omega arith in
      record {
        low = step_low (weight X n) (weight X (n + 1)) X D (z X L n) (z X L (n + 1)) zm pos (rw w' (quotient_low (weight X n * X) D)) (z_next X L n high) h.low;
        high = rw apart (step_high (weight X n) (weight X (n + 1)) X D (z X L n) (z X L (n + 1)) zm (n - m + (m - n)) pos (rw w' (quotient_high (weight X n * X) D pos)) (omega (arith, mode_high X)) (z_next X L n high) h.high);
      }

  held_left : (n : ℕ) → n < m → Held X L (n + 1) → Held X L n
  unfolding distance
  held_left n below h =
      let D : ℕ = (n + 1) * MILLION in
      let w' : weight X n ≡ weight X (n + 1) * D / X = weight_left X n below ∙ ap (λ (v : ℕ). v / X) (mul_assoc (weight X (n + 1)) (n + 1) MILLION) in
      let apart : n - m + (m - n) ≡ n + 1 - m + (m - (n + 1)) + 1 = omega arith in
      record {
        low = step_low (weight X (n + 1)) (weight X n) D X (z X L (n + 1)) (z X L n) zm X_pos (rw w' (quotient_low (weight X (n + 1) * D) X)) (sym (z_next X L n (omega arith))) h.low;
        high = rw apart (step_high (weight X (n + 1)) (weight X n) D X (z X L (n + 1)) (z X L n) zm (n + 1 - m + (m - (n + 1))) X_pos (rw w' (quotient_high (weight X (n + 1) * D) X X_pos)) (omega (arith, mode_low X)) (sym (z_next X L n (omega arith))) h.high);
      }

  held_far_right : (k : ℕ) → m + k ≤ L → Held X L (m + k)
  held_far_right zero h = rw add-zero held_mode
  held_far_right (suc k) h = rw (add-suc, ← add-one) (held_right (m + k) (omega arith) (omega arith) (held_far_right k (omega arith)))

  held_far_left : (k : ℕ) → k ≤ m → Held X L (m - k)
  held_far_left zero h = rw sub-zero held_mode
  held_far_left (suc k) h =
      let one : m - k ≡ m - suc k + 1 = omega arith in
      held_left (m - suc k) (omega arith) (rw one at (held_far_left k (omega arith)))

  -- w(n)·z(m) ≤ 10^15·z(n) ≤ (w(n) + |n − m|)·z(m) for every n up to L
  pub held : (n : ℕ) → n ≤ L → Held X L n
  held n h = from (dec_le m n)
    where
      from : Dec (m ≤ n) → Held X L n
      from (yes l) =
          let here : m + (n - m) ≡ n = omega arith in
          rw here at (held_far_right (n - m) (omega arith))
      from (no l) =
          let here : m - (m - n) ≡ n = omega (arith, l) in
          rw here at (held_far_left (m - n) (omega arith))
