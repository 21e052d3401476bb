-- What was read of a file and a list of times, and what is asked where the start figures are put.
use Rattle.std.specs.Prelude.{List, ◌≡◌, ℕ, ◌+◌, ◌*◌, ◌≤◌, ◌<◌, length, get_or}
use Rattle.definitions.specs.declared.Sizes.{Sizes}
use Rattle.definitions.specs.Sums.{sum, blocks}
use Rattle.definitions.specs.File.{state_count, highest_moment, distributions, weight_field}
use Rattle.definitions.specs.Chain.{Model, Listing, model_of, uniform_rate, sizes_of}
use Rattle.definitions.specs.Vectors.{ONE}
use Rattle.definitions.specs.Weights.{MILLION}
use Rattle.laws.specs.Acceptance.{Framed}
use Rattle.start.specs.Figures.{start_cell}
use Rattle.vectors.specs.ModelLaws.{Held}

-- the arrays and numbers that were read are those of a model, with X of each time
pub record ReadAs (m : Model) (times : List ℕ) (z : Sizes) (a : Listing) (f xs : List ℕ) (ε : ℕ) : Type 0 where
  pub held : Held m z a f
  pub count : length xs ≡ length times
  pub jumps : (k : ℕ) → k < length times → get_or xs k 0 ≡ uniform_rate m * get_or times k 0
  pub tolerance : ε ≡ m.tolerance

-- the first blocks of B cells with their start figures
unfoldable pub started : Model → ℕ → ℕ → List ℕ → List ℕ
started m B count cells = blocks B count (λ k. start_cell m.start m.states m.highest (λ e. get_or cells (k * B + e) 0)) cells

-- the moments of so many times stand in the cells, and the starting weights, where there are some, sum to 1,000,000
pub record Startable (s : List ℕ) (z : Sizes) (count : ℕ) (cells : List ℕ) : Type 0 where
  pub framed : Framed s
  pub highest_max : highest_moment s ≤ 8
  pub full : 0 < distributions s → sum (state_count s) (weight_field s) ≡ MILLION
  pub sizes : z ≡ sizes_of (model_of s)
  pub count_max : count ≤ 8
  pub room : count * z.block ≤ length cells
  pub most : (k e : ℕ) → k < count → e < z.states * z.highest → get_or cells (k * z.block + e) 0 ≤ ONE
