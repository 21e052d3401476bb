-- "Reward vectors": U(n,r), the conditional moments in ticks.
use Rattle.std.specs.Prelude.{ℕ, zero, suc, ◌+◌, ◌*◌, ◌/◌, List}
use Rattle.definitions.specs.Sums.{sum}
use Rattle.definitions.specs.Chain.{Chain, padded}

-- ONE: 10^12 ticks
abbrev pub ONE : ℕ
ONE = 1000000000000

-- the dividend of V, for a vector v at i: the sum over j of c(i,j) × v(j)
abbrev pub row_total : Chain → (ℕ → ℕ) → ℕ → ℕ
row_total ch v i = sum ch.states (λ j. ch.entry i j * v j)

-- V, the row mean of v at i: that sum over E, down
unfoldable pub row_mean : Chain → (ℕ → ℕ) → ℕ → ℕ
row_mean ch v i = row_total ch v i / ch.rate

-- the dividend of W, for x ticks at i: f(i) × x
abbrev pub reward_product : Chain → ℕ → ℕ → ℕ
reward_product ch x i = ch.reward i * x

-- W, the reward share of x ticks at i: that product over F, down
unfoldable pub reward_share : Chain → ℕ → ℕ → ℕ
reward_share ch x i = reward_product ch x i / ch.largest_reward

-- the dividend of U: n × V + r × W
abbrev pub mixed : ℕ → ℕ → ℕ → ℕ → ℕ
mixed n r v w = n * v + r * w

-- that sum over (n + r), down
unfoldable pub mix : ℕ → ℕ → ℕ → ℕ → ℕ
mix n r v w = mixed n r v w / (n + r)

-- U(n,r) at i for n, r ≥ 1, where before is U(n−1,r) and same is U(n,r−1)
unfoldable pub next_entry : Chain → ℕ → ℕ → (ℕ → ℕ) → (ℕ → ℕ) → ℕ → ℕ
next_entry ch n r before same i = mix n r (row_mean ch before i) (reward_share ch (same i) i)

-- U(0,r) at i
unfoldable pub first_vectors : Chain → ℕ → ℕ → ℕ
first_vectors ch zero i = ONE
first_vectors ch (suc r) i = reward_share ch (first_vectors ch r i) i

-- U(n,r) at i for n ≥ 1, where before is U(n−1,·)
unfoldable pub next_vectors : Chain → ℕ → (ℕ → ℕ → ℕ) → ℕ → ℕ → ℕ
next_vectors ch n before zero i = ONE
next_vectors ch n before (suc r) i = next_entry ch n (suc r) (before (suc r)) (next_vectors ch n before r) i

-- U(n,r) at i
unfoldable pub U : Chain → ℕ → ℕ → ℕ → ℕ
U ch zero = first_vectors ch
U ch (suc n) = next_vectors ch (suc n) (U ch n)

-- the row means that this takes at M states for r = 1 to R, up to n = N: one for each state, each r and each n from 1 on, N × M × R (document 02, S-8)
unfoldable pub row_means : ℕ → ℕ → ℕ → ℕ
row_means N M R = N * M * R

-- U(n,r) as a vector for 64 states
unfoldable pub vector : Chain → ℕ → ℕ → List ℕ
vector ch n r = padded ch.states (U ch n r)
