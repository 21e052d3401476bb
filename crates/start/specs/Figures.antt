-- Where the start figures stand, and what the functions that put them need.
use Rattle.std.specs.Prelude.{List, ◌≡◌, ℕ, ◌+◌, ◌*◌, ◌-◌, ◌≤◌, ◌<◌, ltb, length, get_or}
use Rattle.definitions.specs.Sums.{sum, pick}
use Rattle.definitions.specs.Vectors.{ONE}
use Rattle.definitions.specs.Weights.{MILLION}
use Rattle.definitions.specs.Moment.{start_mean}
use Rattle.laws.specs.ArrayLaws.{entry_of}

-- the moments r + 1 of all states, in a block given by its cells
abbrev pub moments_of : ℕ → ℕ → (ℕ → ℕ) → ℕ → ℕ
moments_of R r block i = block (i * R + r)

-- the dividend of a start figure: the sum over the states of weight × moment
abbrev pub start_total : List ℕ → ℕ → (ℕ → ℕ) → ℕ
start_total weights M p = sum M (λ i. get_or weights i 0 * p i)

-- cell e of such a block with the start figures of the weights a: as it was at the M × R moments, the figures after them
abbrev pub start_cell : (ℕ → ℕ) → ℕ → ℕ → (ℕ → ℕ) → ℕ → ℕ
start_cell a M R block e = pick (ltb e (M * R)) (block e) (start_mean M a (moments_of R (e - M * R) block))

-- the weights of a starting distribution over at most 64 states, in millionths
pub record Distribution (weights : List ℕ) (M : ℕ) : Type 0 where
  pub states_max : M ≤ 64
  pub full : sum M (entry_of weights) ≡ MILLION

-- M × R moments stand in the first cells
pub record Moments (cells : List ℕ) (M R : ℕ) : Type 0 where
  pub highest_max : R ≤ 8
  pub room : M * R ≤ length cells
  pub most : (e : ℕ) → e < M * R → get_or cells e 0 ≤ ONE

-- they do in each block, with R cells to follow them
pub record AllMoments (cells : List ℕ) (M R count : ℕ) : Type 0 where
  pub highest_max : R ≤ 8
  pub count_max : count ≤ 8
  pub room : count * ((M + 1) * R) ≤ length cells
  pub most : (k e : ℕ) → k < count → e < M * R → get_or cells (k * ((M + 1) * R) + e) 0 ≤ ONE
