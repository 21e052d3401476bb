-- No vector rises with r.
use Rattle.std.specs.Prelude.{ℕ, zero, suc, ◌≤◌, ◌<◌}
use Rattle.std.proofs.Common.{arith, mul-le-mul_left}
use Rattle.definitions.specs.Chain.{Chain}
use Rattle.definitions.specs.Vectors.{row_mean, reward_share, next_entry, U}
use Rattle.laws.specs.Rounding.{quotient_mono}
use Rattle.laws.specs.SumLaws.{sum_mono}
use Rattle.laws.specs.VectorLaws.{Stochastic, U_zero, U_next, U_bound, reward_share_bound, mix_falls, U_falls_first}

-- the next entry for r + 1 is at most that for r, on any chain: where the vector of n − 1 is no larger than it was for r, and what the share is taken of is
-- no larger than it was, and at most that entry. The share of a number is at most the number, where f is at most F.
pub next_entry_falls : (ch : Chain) (n r : ℕ) (v w v' w' : ℕ → ℕ) (i : ℕ) → ch.reward i ≤ ch.largest_reward → ((j : ℕ) → j < ch.states → v' j ≤ v j) → w' i ≤ w i → w' i ≤ next_entry ch n r v w i → next_entry ch n (suc r) v' w' i ≤ next_entry ch n r v w i
unfolding next_entry row_mean reward_share
next_entry_falls ch n r v w v' w' i f hv hw here = grind (arith, mix_falls, quotient_mono, sum_mono, mul-le-mul_left, reward_share_bound)

U_falls_next : (ch : Chain) → Stochastic ch → (n : ℕ) → ((r j : ℕ) → j < ch.states → U ch n (suc r) j ≤ U ch n r j) → (r i : ℕ) → i < ch.states → U ch (suc n) (suc r) i ≤ U ch (suc n) r i
U_falls_next ch s n h zero i l = rw (U_zero ch (suc n)) (U_bound ch s (suc n) 1 i l)
U_falls_next ch s n h (suc r) i l = grind (arith, U_falls_next ch s n h r i l, U_next, next_entry_falls)

pub U_falls : (ch : Chain) → Stochastic ch → (n r i : ℕ) → i < ch.states → U ch n (suc r) i ≤ U ch n r i
U_falls ch s zero = U_falls_first ch s
U_falls ch s (suc n) = U_falls_next ch s n (U_falls ch s n)
