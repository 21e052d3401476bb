-- The recurrence's equations as the paper has them, its range, its order (no lower vectors from no lower ones, and none that rises with r), that it reads
-- a chain at its states alone, and the row means that it takes.
use Rattle.std.specs.Prelude.{ℕ, zero, suc, ◌+◌, ◌*◌, ◌/◌, ◌≤◌, ◌<◌, ◌≡◌, refl}
use Rattle.std.proofs.Common.{arith, mul-le-mul, mul-le-mul_left, mul-le-mul_right, le_refl, le_trans, le_antisymm, ap}
use Rattle.std.proofs.Math.Decide.{dec_lt}
use Rattle.definitions.specs.Sums.{sum}
use Rattle.definitions.specs.Chain.{Chain}
use Rattle.definitions.specs.Vectors.{ONE, row_total, row_mean, reward_share, mix, next_entry, first_vectors, next_vectors, U, row_means}
use Rattle.laws.specs.Rounding.{quotient_high, quotient_at_most, quotient_mono, quotient_below}
use Rattle.laws.specs.SumLaws.{sum_mono, sum_times, sum_constant}
use Rattle.laws.specs.ChainLaws.{SameChain, the_other_way, Raised, same_raised}

-- U(n,0) is ONE everywhere
pub U_zero : (ch : Chain) (n i : ℕ) → U ch n 0 i ≡ ONE
unfolding U first_vectors next_vectors
U_zero ch n i = grind arith

-- U(0,r) at i is f(i) × U(0,r−1) at i, over F, down
pub U_first : (ch : Chain) (r i : ℕ) → U ch 0 (suc r) i ≡ reward_share ch (U ch 0 r i) i
unfolding U first_vectors
U_first ch r i = refl

pub U_first_written : (ch : Chain) (r i : ℕ) → U ch 0 (suc r) i ≡ ch.reward i * U ch 0 r i / ch.largest_reward
unfolding reward_share
U_first_written ch r i = U_first ch r i

-- U(n,r) at i for n, r ≥ 1
pub U_next : (ch : Chain) (n r i : ℕ) → U ch (suc n) (suc r) i ≡ next_entry ch (suc n) (suc r) (U ch n (suc r)) (U ch (suc n) r) i
unfolding U next_vectors
U_next ch n r i = refl

-- the same, written out: V, W and their mean
pub U_next_written : (ch : Chain) (n r i : ℕ) → U ch (suc n) (suc r) i ≡ (suc n * (sum ch.states (λ j. ch.entry i j * U ch n (suc r) j) / ch.rate) + suc r * (ch.reward i * U ch (suc n) r i / ch.largest_reward)) / (suc n + suc r)
unfolding next_entry mix row_mean reward_share
U_next_written ch n r i = U_next ch n r i

-- what the recurrence needs of a chain to stay in range
pub record Stochastic (ch : Chain) : Type 0 where
  pub row : (i : ℕ) → i < ch.states → sum ch.states (ch.entry i) ≤ ch.rate
  pub reward : (i : ℕ) → i < ch.states → ch.reward i ≤ ch.largest_reward

-- a row's sum of products stays within E × the vector's bound
pub row_bound : (ch : Chain) (v : ℕ → ℕ) (k i : ℕ) → Stochastic ch → i < ch.states → ((j : ℕ) → j < ch.states → v j ≤ k) → sum ch.states (λ j. ch.entry i j * v j) ≤ ch.rate * k
row_bound ch v k i s l h =
    le_trans (sum_mono ch.states (λ j. ch.entry i j * v j) (λ j. ch.entry i j * k) (λ j b. mul-le-mul_left (ch.entry i j) (h j b)))
    (omega (arith, sum_times ch.states k (ch.entry i), mul-le-mul_right k (s.row i l)))

-- the row mean, the reward share and the mix of numbers up to k are up to k
pub row_mean_bound : (ch : Chain) (v : ℕ → ℕ) (k i : ℕ) → Stochastic ch → i < ch.states → ((j : ℕ) → j < ch.states → v j ≤ k) → row_mean ch v i ≤ k
unfolding row_mean
row_mean_bound ch v k i s l h = quotient_at_most _ k ch.rate (omega (arith, row_bound ch v k i s l h))

pub reward_share_bound : (ch : Chain) (x k i : ℕ) → ch.reward i ≤ ch.largest_reward → x ≤ k → reward_share ch x i ≤ k
unfolding reward_share
reward_share_bound ch x k i f h = quotient_at_most (ch.reward i * x) k ch.largest_reward (omega (arith, mul-le-mul f h))

pub mix_bound : (n r v w k : ℕ) → v ≤ k → w ≤ k → mix n r v w ≤ k
unfolding mix
mix_bound n r v w k hv hw = quotient_at_most (n * v + r * w) k (n + r) (omega (arith, mul-le-mul_left n hv, mul-le-mul_left r hw))

pub next_entry_bound : (ch : Chain) (n r : ℕ) (before same : ℕ → ℕ) (k i : ℕ) → Stochastic ch → i < ch.states → ((j : ℕ) → j < ch.states → before j ≤ k) → same i ≤ k → next_entry ch n r before same i ≤ k
unfolding next_entry
next_entry_bound ch n r before same k i s l hb hs =
    mix_bound n r (row_mean ch before i) (reward_share ch (same i) i) k (row_mean_bound ch before k i s l hb) (reward_share_bound ch (same i) k i (s.reward i l) hs)

-- U ≤ ONE at every state
U_bound_first : (ch : Chain) → Stochastic ch → (r i : ℕ) → i < ch.states → U ch 0 r i ≤ ONE
U_bound_first ch s zero i l = rw U_zero (omega arith)
U_bound_first ch s (suc r) i l = rw U_first (reward_share_bound ch (U ch 0 r i) ONE i (s.reward i l) (U_bound_first ch s r i l))

U_bound_next : (ch : Chain) → Stochastic ch → (n : ℕ) → ((r j : ℕ) → j < ch.states → U ch n r j ≤ ONE) → (r i : ℕ) → i < ch.states → U ch (suc n) r i ≤ ONE
U_bound_next ch s n h zero i l = rw U_zero (omega arith)
U_bound_next ch s n h (suc r) i l = grind (arith, U_bound_next ch s n h r i l, U_next, next_entry_bound)

pub U_bound : (ch : Chain) → Stochastic ch → (n r i : ℕ) → i < ch.states → U ch n r i ≤ ONE
U_bound ch s zero = U_bound_first ch s
U_bound ch s (suc n) = U_bound_next ch s n (U_bound ch s n)

-- every step is monotone: from no lower vectors, on a chain that is no lower, it makes no lower numbers
row_total_mono : (a b : Chain) (v w : ℕ → ℕ) (i : ℕ) → Raised a b → i < a.states → ((j : ℕ) → j < a.states → v j ≤ w j) → row_total a v i ≤ row_total b w i
row_total_mono a b v w i e l h = grind (arith, sum_mono, mul-le-mul)

pub row_mean_mono : (a b : Chain) (v w : ℕ → ℕ) (i : ℕ) → Raised a b → i < a.states → ((j : ℕ) → j < a.states → v j ≤ w j) → row_mean a v i ≤ row_mean b w i
unfolding row_mean
row_mean_mono a b v w i e l h = rw (← e.rate) (quotient_mono (row_total a v i) (row_total b w i) a.rate (row_total_mono a b v w i e l h))

pub reward_share_mono : (a b : Chain) (x y i : ℕ) → Raised a b → i < a.states → x ≤ y → reward_share a x i ≤ reward_share b y i
unfolding reward_share
reward_share_mono a b x y i e l h = rw (← e.largest_reward) (quotient_mono (a.reward i * x) (b.reward i * y) a.largest_reward (mul-le-mul (e.reward i l) h))

pub mix_mono : (n r v w v' w' : ℕ) → v ≤ v' → w ≤ w' → mix n r v w ≤ mix n r v' w'
unfolding mix
mix_mono n r v w v' w' hv hw = quotient_mono (n * v + r * w) (n * v' + r * w') (n + r) (omega (arith, mul-le-mul_left n hv, mul-le-mul_left r hw))

pub next_entry_mono : (a b : Chain) (n r : ℕ) (v w x y : ℕ → ℕ) (i : ℕ) → Raised a b → i < a.states → ((j : ℕ) → j < a.states → v j ≤ w j) → x i ≤ y i → next_entry a n r v x i ≤ next_entry b n r w y i
unfolding next_entry
next_entry_mono a b n r v w x y i e l h q = mix_mono n r _ _ _ _ (row_mean_mono a b v w i e l h) (reward_share_mono a b (x i) (y i) i e l q)

U_mono_first : (a b : Chain) → Raised a b → (r i : ℕ) → i < a.states → U a 0 r i ≤ U b 0 r i
U_mono_first a b e zero i l = rw (U_zero a, U_zero b) (le_refl ONE)
U_mono_first a b e (suc r) i l = rw (U_first a, U_first b) (reward_share_mono a b (U a 0 r i) (U b 0 r i) i e l (U_mono_first a b e r i l))

U_mono_next : (a b : Chain) → Raised a b → (n : ℕ) → ((r j : ℕ) → j < a.states → U a n r j ≤ U b n r j) → (r i : ℕ) → i < a.states → U a (suc n) r i ≤ U b (suc n) r i
U_mono_next a b e n h zero i l = rw (U_zero a, U_zero b) (le_refl ONE)
U_mono_next a b e n h (suc r) i l = grind (arith, U_mono_next a b e n h r i l, U_next, next_entry_mono)

-- so a chain that is no lower has no lower U, whatever its rows sum to
pub U_mono : (a b : Chain) → Raised a b → (n r i : ℕ) → i < a.states → U a n r i ≤ U b n r i
U_mono a b e zero = U_mono_first a b e
U_mono a b e (suc n) = U_mono_next a b e n (U_mono a b e n)

-- the row total, the next entry and U read a chain at its states alone: on chains that agree there each is at most the other
pub row_total_same : (a b : Chain) (v w : ℕ → ℕ) (i : ℕ) → SameChain a b → i < a.states → ((j : ℕ) → j < a.states → v j ≡ w j) → row_total a v i ≡ row_total b w i
row_total_same a b v w i e l h = grind (arith, row_total_mono)

pub next_entry_same : (a b : Chain) (n r : ℕ) (v w x y : ℕ → ℕ) (i : ℕ) → SameChain a b → i < a.states → ((j : ℕ) → j < a.states → v j ≡ w j) → x i ≡ y i → next_entry a n r v x i ≡ next_entry b n r w y i
next_entry_same a b n r v w x y i e l h q = grind (arith, next_entry_mono)

pub U_same : (a b : Chain) → SameChain a b → (n r i : ℕ) → i < a.states → U a n r i ≡ U b n r i
U_same a b e n r i l = le_antisymm (U_mono a b (same_raised a b e) n r i l) (U_mono b a (same_raised b a (the_other_way a b e)) n r i (omega (arith, e.states)))

-- one more r: where neither V nor W is larger, and W is not above the mix before, the mix is not either. With y that mix, n × v' + (r + 1) × w' is at
-- most n × v + r × w + y, which is below (n + r) × (y + 1) + (y + 1).
pub mix_falls : (n r v w v' w' : ℕ) → v' ≤ v → w' ≤ w → w' ≤ mix n r v w → mix n (suc r) v' w' ≤ mix n r v w
unfolding mix
mix_falls n r v w v' w' hv hw hy =
    let y : ℕ = (n * v + r * w) / (n + r) in
    elim (dec_lt 0 (n + r)) [
      | yes pos ↦
          let before : n * v + r * w < (y + 1) * (n + r) = quotient_high (n * v + r * w) (n + r) pos in
          let now : n * v' + suc r * w' < (y + 1) * (n + suc r) = omega (arith, before, mul-le-mul_left n hv, mul-le-mul_left r hw, hy) in
          omega (arith, quotient_below (n * v' + suc r * w') (y + 1) (n + suc r) now)
      | no none ↦
          let n0 : n ≡ 0 = omega (arith, none) in
          let r0 : r ≡ 0 = omega (arith, none) in
          quotient_at_most (n * v' + suc r * w') y (n + suc r) (omega (arith, hy, ap (λ (k : ℕ). k * v') n0, ap (λ (k : ℕ). k * w') r0, ap (λ (k : ℕ). y * k) n0, ap (λ (k : ℕ). y * k) r0))
    ]

-- U(n,r+1) ≤ U(n,r) at every state
pub U_falls_first : (ch : Chain) → Stochastic ch → (r i : ℕ) → i < ch.states → U ch 0 (suc r) i ≤ U ch 0 r i
U_falls_first ch s r i l = rw U_first (reward_share_bound ch (U ch 0 r i) (U ch 0 r i) i (s.reward i l) (le_refl _))

-- the row means up to N are one for each n from 1 to N, each state and each r
pub one_for_each : (N M R : ℕ) → row_means N M R ≡ sum N (λ n. sum M (λ i. sum R (λ r. 1)))
unfolding row_means
one_for_each N M R = rw (sum_constant R 1, sum_constant M (R * 1), sum_constant N (M * (R * 1))) (omega arith)

-- none for n = 0, M × R more with every n, and no more than 1,024 × 64 × 8 for the greatest n, M and R
pub means_none : (M R : ℕ) → row_means 0 M R ≡ 0
unfolding row_means
means_none M R = omega arith

pub means_next : (n M R : ℕ) → row_means (n + 1) M R ≡ row_means n M R + M * R
unfolding row_means
means_next n M R = omega arith

pub means_max : (n M R : ℕ) → n ≤ 1024 → M ≤ 64 → R ≤ 8 → row_means n M R ≤ 524288
unfolding row_means
means_max n M R hn hM hR = omega (arith, mul-le-mul (mul-le-mul hn hM) hR)
