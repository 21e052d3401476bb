-- A vector of 64 states: U(n,0), U(0,r) and U(n,r) as vectors, each from the ones before it, and their range. Assumes nothing.
use Rattle.std.specs.Prelude.{List, ◌≡◌, get_or, ℕ, zero, suc, ◌-◌, ◌≤◌, ◌<◌}
use Rattle.std.proofs.Common.{sym, ap, ◌∙◌, arith}
use Rattle.definitions.specs.Chain.{Chain, padded}
use Rattle.definitions.specs.Vectors.{ONE, reward_share, next_entry, U, vector}
use Rattle.laws.specs.ListLaws.{over_same}
use Rattle.laws.specs.ChainLaws.{itself, get_d_padded}
use Rattle.laws.specs.VectorLaws.{Stochastic, U_zero, U_first, U_next, U_bound, next_entry_same}
use Rattle.laws.specs.ArrayLaws.{zeros, entry_of, over_padded}
use Rattle.vectors.specs.Ready.{Ticks}

-- vectors that agree at the states are one array
padded_same : (M : ℕ) (f g : ℕ → ℕ) → M ≤ 64 → ((i : ℕ) → i < M → f i ≡ g i) → padded M f ≡ padded M g
padded_same M f g h same = sym (over_padded M f h) ∙ over_same M f g (zeros 64) same ∙ over_padded M g h

module _ (ch : Chain) (states_max : ch.states ≤ 64) where
  pub get_d_vector : (n r i : ℕ) → i < ch.states → get_or (vector ch n r) i 0 ≡ U ch n r i
  unfolding vector
  get_d_vector n r i l = get_d_padded ch.states (U ch n r) i states_max l

  -- U(n,r) ≤ ONE
  pub vector_ticks : (n r : ℕ) {v : List ℕ} → v ≡ vector ch n r → Stochastic ch → Ticks ch.states v
  vector_ticks n r e s = record { below = λ j l. rw e (omega (arith, get_d_vector n r j l, U_bound ch s n r j l)) }

  -- U(n,0)
  pub vector_zero : (n : ℕ) → padded ch.states (λ i. ONE) ≡ vector ch n 0
  unfolding vector
  vector_zero n = padded_same ch.states (λ i. ONE) (U ch n 0) states_max (λ i l. sym (U_zero ch n i))

  -- U(0,r) from U(0,r−1)
  pub vector_first : (r : ℕ) → 1 ≤ r → padded ch.states (λ i. reward_share ch (get_or (vector ch 0 (r - 1)) i 0) i) ≡ vector ch 0 r
  unfolding vector
  vector_first zero hr = absurd (omega arith)
  vector_first (suc r) hr =
      padded_same ch.states (λ i. reward_share ch (get_or (vector ch 0 (suc r - 1)) i 0) i) (U ch 0 (suc r)) states_max
      (λ i l. ap (λ (x : ℕ). reward_share ch x i) (get_d_vector 0 (suc r - 1) i l) ∙ rw less (sym (U_first ch r i)))
    where
      less : suc r - 1 ≡ r
      less = omega arith

  -- U(n,r) from U(n−1,r) and U(n,r−1)
  pub vector_next : (n r : ℕ) → 1 ≤ n → 1 ≤ r → padded ch.states (next_entry ch n r (entry_of (vector ch (n - 1) r)) (entry_of (vector ch n (r - 1)))) ≡ vector ch n r
  unfolding vector
  vector_next zero r hn hr = absurd (omega arith)
  vector_next (suc n) zero hn hr = absurd (omega arith)
  vector_next (suc n) (suc r) hn hr =
      rw (less n, less r)
      (padded_same ch.states (next_entry ch (suc n) (suc r) (entry_of (vector ch n (suc r))) (entry_of (vector ch (suc n) r))) (U ch (suc n) (suc r)) states_max
      (λ i l.
      next_entry_same ch ch (suc n) (suc r) (entry_of (vector ch n (suc r))) (U ch n (suc r)) (entry_of (vector ch (suc n) r)) (U ch (suc n) r) i (itself ch) l
      (get_d_vector n (suc r)) (get_d_vector (suc n) r i l)
      ∙ sym (U_next ch n r i)))
    where
      less : (k : ℕ) → suc k - 1 ≡ k
      less k = omega arith
