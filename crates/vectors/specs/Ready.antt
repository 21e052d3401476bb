-- What a step needs of the arrays that hold a chain, and of a vector. Assumes nothing: these are definitions.
use Rattle.std.specs.Prelude.{List, ℕ, ◌+◌, ◌*◌, ◌≤◌, ◌<◌, ◌^◌, length, get_or}
use Rattle.definitions.specs.declared.Sizes.{Sizes}
use Rattle.definitions.specs.Sums.{sum}
use Rattle.definitions.specs.Chain.{Listing, target_at, rate_at, arrays}
use Rattle.definitions.specs.Vectors.{ONE}
use Rattle.laws.specs.VectorLaws.{Stochastic}

-- f, with the sizes M and F, is within document 01's limits: all that U(0,r) reads
pub record RewardsReady (z : Sizes) (f : List ℕ) : Type 0 where
  pub states_max : z.states ≤ 64
  pub largest_pos : 1 ≤ z.largest
  pub largest_max : z.largest ≤ 1000000
  pub reward : (i : ℕ) → i < z.states → get_or f i 0 ≤ z.largest

-- M rows of at most M places each, that hold states
pub record Placed (M : ℕ) (a : Listing) : Type 0 where
  pub target_room : M * M ≤ length a.targets
  pub rate_room : M * M ≤ length a.rates
  pub count_max : (i : ℕ) → i < M → get_or a.counts i 0 ≤ M
  pub target_max : (i k : ℕ) → i < M → k < get_or a.counts i 0 → target_at M a i k < M

-- f, c and E are within document 01's limits, and c stands in such places
pub record Ready (z : Sizes) (a : Listing) (f : List ℕ) : Type 0 where
  pub rewards : RewardsReady z f
  pub places : Placed z.states a
  pub rate_pos : 1 ≤ z.rate
  pub rate_max : z.rate ≤ 10000000
  pub stochastic : Stochastic (arrays z a f)

-- a vector of at most ONE at every state
pub record Ticks (M : ℕ) (v : List ℕ) : Type 0 where
  pub below : (j : ℕ) → j < M → get_or v j 0 ≤ ONE

-- the indices of a step: n jumps, and r up to the highest moment there is
pub record Indices (n r : ℕ) : Type 0 where
  pub jumps_max : n ≤ 1024
  pub moment_max : r ≤ 8
  pub some : 0 < n + r

-- the product of place k of row i and v
abbrev pub product_at : ℕ → Listing → List ℕ → ℕ → ℕ → ℕ
product_at M a v i k = rate_at M a i k * get_or v (target_at M a i k) 0

-- row i of c against v: its products sum to less than 2^64
pub record RowReady (z : Sizes) (a : Listing) (v : List ℕ) (i : ℕ) : Type 0 where
  pub state : i < z.states
  pub states_max : z.states ≤ 64
  pub places : Placed z.states a
  pub rate_pos : 1 ≤ z.rate
  pub fits : sum (get_or a.counts i 0) (product_at z.states a v i) < 2 ^ 64

-- V and W of a step with n and r
pub record MixReady (n r v w : ℕ) : Type 0 where
  pub indices : Indices n r
  pub mean_max : v ≤ ONE
  pub share_max : w ≤ ONE

-- what a step is handed: U(n−1,r) as before and U(n,r−1) as same
pub record StepReady (M n r : ℕ) (before same : List ℕ) : Type 0 where
  pub indices : Indices n r
  pub before_ticks : Ticks M before
  pub same_ticks : Ticks M same
