-- The exact weights past a level that passes, summed to any later L, stay within S(N)·ε/10^9.
use Rattle.std.specs.Prelude.{ℕ, zero, suc, ◌+◌, ◌*◌, ◌-◌, ◌/◌, ◌≤◌, ◌<◌, ◌≡◌}
use Rattle.std.proofs.Common.{arith, mul-le-mul_left, mul-le-mul_right, le_of_mul-le-mul_right, le_of_lt, add-zero, ap}
use Rattle.definitions.specs.Sums.{sum}
use Rattle.definitions.specs.Weights.{GREATEST, MILLION, mode, weight, weight_sum}
use Rattle.definitions.specs.Level.{BILLION, tail_bound, allowance, Passes}
use Rattle.laws.specs.Rounding.{quotient_low, quotient_high}
use Rattle.laws.specs.SumLaws.{sum_zero, sum_suc}
use Rattle.laws.specs.WeightLaws.{mode_low}
use Rattle.laws.specs.WeightError.{z, z_next, distance, held}

-- z(N + 1) + … + z(N + k)
abbrev pub tail : ℕ → ℕ → ℕ → ℕ → ℕ
tail X L N k = sum k (λ j. z X L (N + 1 + j))

-- one more term of a falling series: with z' × s = z × a and r + a ≤ s, the tail grows by z' and z × a falls to z' × a
tail_step : (t z z' a r s b : ℕ) → z' * s ≡ z * a → r + a ≤ s → t * r + z * a ≤ b → (t + z') * r + z' * a ≤ b
tail_step t z z' a r s b e h p = omega (arith, mul-le-mul_left z' h)

module _ (X L N : ℕ) (past : X ≤ N * MILLION) where
  tail_bound_lem : (k : ℕ) → N + k ≤ L → tail X L N k * ((N + 1) * MILLION - X) + z X L (N + k) * X ≤ z X L N * X
  tail_bound_lem zero h = rw (sum_zero, add-zero) (omega arith)
  tail_bound_lem (suc k) h =
      let here : z X L (N + 1 + k) ≡ z X L (N + k + 1) = ap (z X L) (omega arith) in
      let last : z X L (N + suc k) ≡ z X L (N + k + 1) = ap (z X L) (omega arith) in
      let next : z X L (N + k + 1) * ((N + k + 1) * MILLION) ≡ z X L (N + k) * X = z_next X L (N + k) (omega arith) in
      rw (sum_suc, here, last)
      (tail_step (tail X L N k) (z X L (N + k)) (z X L (N + k + 1)) X ((N + 1) * MILLION - X) ((N + k + 1) * MILLION) (z X L N * X) next (omega arith) (tail_bound_lem k (omega arith)))

-- t passes what the weight w at the level and its error d allow, for a rest r: G·T·r ≤ G·z·a ≤ (w + d)·zm·a and (w + d)·a < t·r
within_test : (T z a r w d zm t : ℕ) → 0 < r → T * r ≤ z * a → GREATEST * z ≤ (w + d) * zm → (w + d) * a < t * r → GREATEST * T ≤ t * zm
within_test T z a r w d zm t pos h p q =
    le_of_mul-le-mul_right {k = r}
    (omega (arith, mul-le-mul_left GREATEST h, mul-le-mul_right a p, mul-le-mul_right zm (le_of_lt q)))
    pos

-- and t is within S·ε/10^9
within_tolerance : (T t S ε zm : ℕ) → GREATEST * T ≤ t * zm → t ≤ S * ε / BILLION → GREATEST * T * BILLION ≤ S * ε * zm
within_tolerance T t S ε zm h p =
    omega (arith, mul-le-mul_right BILLION h, mul-le-mul_right (BILLION * zm) p, mul-le-mul_right zm (quotient_low (S * ε) BILLION))

module _ (X ε L N : ℕ) (X_pos : 0 < X) (passes : Passes X ε N) (past : N ≤ L) where
  -- the tail past N, up to L, scaled so that the weight of m is 10^15
  pub tail_within : GREATEST * tail X L N (L - N) * BILLION ≤ weight_sum X N * ε * z X L (mode X)
  unfolding tail_bound allowance distance
  tail_within =
      within_tolerance (tail X L N (L - N)) t (weight_sum X N) ε (z X L (mode X))
      (within_test (tail X L N (L - N)) (z X L N) X r (weight X N) (N - mode X + (mode X - N)) (z X L (mode X)) t (omega (arith, passes.past))
      (omega (arith, tail_bound_lem X L N passes.past (L - N) (omega arith)))
      (held X X_pos L (omega (arith, reached)) N past).high
      (omega (arith, quotient_high ((weight X N + N - mode X) * X) r (omega (arith, passes.past)), ap (λ (v : ℕ). v * X) same)))
      passes.small
    where
      r : ℕ
      r = (N + 1) * MILLION - X

      t : ℕ
      t = 1 + (weight X N + N - mode X) * X / r

      reached : mode X ≤ N
      reached = omega (arith, mode_low X, passes.past)

      same : weight X N + N - mode X ≡ weight X N + (N - mode X + (mode X - N))
      same = omega (arith, reached)
