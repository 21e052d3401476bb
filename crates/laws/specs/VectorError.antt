-- The vectors' error: U ≤ ONE·u ≤ U + 2(n + r) at every state, and u ≤ 1.
use Rattle.std.specs.Prelude.{ℕ, zero, suc, ◌+◌, ◌*◌, ◌/◌, ◌≤◌, ◌<◌, ◌≡◌}
use Rattle.std.proofs.Common.{arith, mul-le-mul_right, mul-add, ◌∙◌, ap}
use Rattle.definitions.specs.Sums.{sum}
use Rattle.definitions.specs.Chain.{Chain}
use Rattle.definitions.specs.Vectors.{ONE, row_mean, reward_share, mix, next_entry, first_vectors, next_vectors, U}
use Rattle.definitions.specs.Fraction.{Fraction, whole, plus, times, total}
use Rattle.definitions.specs.Average.{Proper, sum_pos, exact_mean, exact_share, exact_mix, exact_first, exact_next, exact_u}
use Rattle.laws.specs.Rounding.{quotient_low, quotient_high}
use Rattle.laws.specs.SumLaws.{sum_same, sum_plus, sum_times}
use Rattle.laws.specs.VectorLaws.{Stochastic}
use Rattle.laws.specs.FractionLaws.{Low, High, high_more, plus_low, plus_high, whole_times_low, whole_times_high, over_low, over_high, total_low, total_high}

-- x is at least v/d and at most (v + e)/d, and at most 1
pub record Near (v e d : ℕ) (x : Fraction) : Type 0 where
  pub low : Low v d x
  pub high : High (v + e) d x
  pub top : High 1 1 x

module _ (ch : Chain) (p : Proper ch) (s : Stochastic ch) where
  -- the row mean loses at most one more than its vector
  mean_near : (v : ℕ → ℕ) (e d i : ℕ) (x : ℕ → Fraction) → i < ch.states → ((j : ℕ) → j < ch.states → Near (v j) e d (x j)) → Near (row_mean ch v i) (e + 1) d (exact_mean ch p x i)
  unfolding row_mean exact_mean
  mean_near v e d i x l h =
      record {
        low =
            over_low (S / E) products p.rate_pos (quotient_low S E)
            (total_low M d (λ j. c j * v j) term (λ j b. whole_times_low (c j) (x j) (h j b).low));
        high =
            over_high (S / E + (e + 1)) products p.rate_pos wide
            (total_high M d (λ j. c j * (v j + e)) term (λ j b. whole_times_high (c j) (x j) (h j b).high));
        top =
            over_high 1 products p.rate_pos (omega (arith, sum_times M 1 c, s.row i l))
            (total_high M 1 (λ j. c j * 1) term (λ j b. whole_times_high (c j) (x j) (h j b).top));
      }
    where
      M : ℕ
      M = ch.states

      E : ℕ
      E = ch.rate

      c : ℕ → ℕ
      c j = ch.entry i j

      S : ℕ
      S = sum M (λ j. c j * v j)

      term : ℕ → Fraction
      term j = times (whole (c j)) (x j)

      products : Fraction
      products = total M term

      split : sum M (λ j. c j * (v j + e)) ≡ S + sum M c * e
      split =
          sum_same M (λ j. c j * (v j + e)) (λ j. c j * v j + c j * e) (λ j b. mul-add (c j) (v j) e)
          ∙ sum_plus M (λ j. c j * v j) (λ j. c j * e)
          ∙ ap (λ (k : ℕ). S + k) (sum_times M e c)

      wide : sum M (λ j. c j * (v j + e)) ≤ (S / E + (e + 1)) * E
      wide = omega (arith, split, quotient_high S E p.rate_pos, mul-le-mul_right e (s.row i l))

  -- the reward share loses at most one more than its number
  share_near : (v e d i : ℕ) (x : Fraction) → i < ch.states → Near v e d x → Near (reward_share ch v i) (e + 1) d (exact_share ch p x i)
  unfolding reward_share exact_share
  share_near v e d i x l h =
      record {
        low = over_low (f * v / F) (times (whole f) x) p.reward_pos (quotient_low (f * v) F) (whole_times_low f x h.low);
        high =
            over_high (f * v / F + (e + 1)) (times (whole f) x) p.reward_pos
            (omega (arith, quotient_high (f * v) F p.reward_pos, mul-le-mul_right e (s.reward i l)))
            (whole_times_high f x h.high);
        top = over_high 1 (times (whole f) x) p.reward_pos (omega (arith, s.reward i l)) (whole_times_high f x h.top);
      }
    where
      f : ℕ
      f = ch.reward i

      F : ℕ
      F = ch.largest_reward

-- the mix of two numbers that lost at most e loses at most one more
mix_near : (n k v w e d : ℕ) (x y : Fraction) → Near v e d x → Near w e d y → Near (mix n (suc k) v w) (e + 1) d (exact_mix n k x y)
unfolding mix exact_mix
mix_near n k v w e d x y p q =
    record {
      low =
          over_low (both / (n + suc k)) sum_of (sum_pos n k) (quotient_low both (n + suc k))
          (plus_low first second (whole_times_low n x p.low) (whole_times_low (suc k) y q.low));
      high =
          over_high (both / (n + suc k) + (e + 1)) sum_of (sum_pos n k)
          (omega (arith, quotient_high both (n + suc k) (sum_pos n k)))
          (plus_high first second (whole_times_high n x p.high) (whole_times_high (suc k) y q.high));
      top =
          over_high 1 sum_of (sum_pos n k) (omega arith)
          (plus_high first second (whole_times_high n x p.top) (whole_times_high (suc k) y q.top));
    }
  where
    both : ℕ
    both = n * v + suc k * w

    first : Fraction
    first = times (whole n) x

    second : Fraction
    second = times (whole (suc k)) y

    sum_of : Fraction
    sum_of = plus first second

-- a wider error
widen : {v e d : ℕ} (b : ℕ) (x : Fraction) → e ≤ b → Near v e d x → Near v b d x
widen {v} {e} b x h n = record { low = n.low; high = high_more (v + b) x (omega arith) n.high; top = n.top }

module _ (ch : Chain) (p : Proper ch) (s : Stochastic ch) where
  pub first_near : (r i : ℕ) → i < ch.states → Near (U ch 0 r i) (2 * (0 + r)) ONE (exact_u ch p 0 r i)
  unfolding U first_vectors exact_u exact_first
  first_near zero i l = record { low = record { low = omega arith }; high = record { high = omega arith }; top = record { high = omega arith } }
  first_near (suc r) i l =
      widen (2 * (0 + suc r)) _ (omega arith) (share_near ch p s (U ch 0 r i) (2 * (0 + r)) ONE i (exact_u ch p 0 r i) l (first_near r i l))

  pub next_near : (n : ℕ) → ((r j : ℕ) → j < ch.states → Near (U ch n r j) (2 * (n + r)) ONE (exact_u ch p n r j)) → (r i : ℕ) → i < ch.states → Near (U ch (suc n) r i) (2 * (suc n + r)) ONE (exact_u ch p (suc n) r i)
  unfolding U next_vectors next_entry exact_u exact_next
  next_near n h zero i l = record { low = record { low = omega arith }; high = record { high = omega arith }; top = record { high = omega arith } }
  next_near n h (suc r) i l =
      let before = mean_near ch p s (U ch n (suc r)) (2 * (n + suc r)) ONE i (exact_u ch p n (suc r)) l (h (suc r)) in
      let same = share_near ch p s (U ch (suc n) r i) (2 * (suc n + r)) ONE i (exact_u ch p (suc n) r i) l (next_near n h r i l) in
      let e = 2 * (suc n + r) + 1 in
      widen (2 * (suc n + suc r)) _ (omega arith) (mix_near (suc n) r _ _ e ONE _ _ (widen e _ (omega arith) before) same)
