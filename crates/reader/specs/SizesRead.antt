-- E and F from the arrays that were read, and the sizes of a model.
use Rattle.std.specs.Prelude.{ℕ, ◌≤◌, max, ◌≡◌, refl, List}
use Rattle.definitions.specs.declared.Sizes.{Sizes}
use Rattle.definitions.specs.Sums.{largest}
use Rattle.definitions.specs.Chain.{Model, row_sum, uniform_rate, max_reward, padded, block_of, sizes_of}
use Rattle.laws.specs.SumLaws.{largest_same}
use Rattle.laws.specs.ChainLaws.{get_d_padded}
use Rattle.laws.specs.ArrayLaws.{entry_of}

-- the largest entry of a padded vector is the largest at a state
pub largest_padded : (M : ℕ) (v : ℕ → ℕ) (l : List ℕ) → M ≤ 64 → l ≡ padded M v → largest M (entry_of l) ≡ largest M v
largest_padded M v l h e = largest_same M (entry_of l) v (λ i b. rw e (get_d_padded M v i h b))

-- E from the array of row sums
pub rate_of_sums : (m : Model) (sums : List ℕ) → m.states ≤ 64 → sums ≡ padded m.states (row_sum m) → max 1 (largest m.states (entry_of sums)) ≡ uniform_rate m
unfolding uniform_rate
rate_of_sums m sums h e = rw (largest_padded m.states (row_sum m) sums h e) refl

-- F from the array of rewards
pub reward_of_rewards : (m : Model) (rewards : List ℕ) → m.states ≤ 64 → rewards ≡ padded m.states m.reward → largest m.states (entry_of rewards) ≡ max_reward m
unfolding max_reward
reward_of_rewards m rewards h e = largest_padded m.states m.reward rewards h e

-- M, R, the cells of a block, E and F, each as it was read
pub sizes_read : {M R B E F : ℕ} (m : Model) → M ≡ m.states → R ≡ m.highest → B ≡ block_of m → E ≡ uniform_rate m → F ≡ max_reward m → ◌≡◌ {A = Sizes} (record { states = M; highest = R; block = B; rate = E; largest = F }) (sizes_of m)
sizes_read m a b c d e = λ k. record { states = a k; highest = b k; block = c k; rate = d k; largest = e k }
