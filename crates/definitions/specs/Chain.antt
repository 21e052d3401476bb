-- "Chain": the model that a file states, and its uniformized chain. What follows the bytes speaks of a Model and not of bytes.
use Rattle.std.specs.Prelude.{ℕ, ◌+◌, ◌*◌, ◌-◌, max, List, get_or, eqb, ltb}
use Rattle.definitions.specs.declared.Sizes.{Sizes}
use Rattle.definitions.specs.Sums.{sum, largest, firsts, pick}
use Rattle.definitions.specs.File.{state_count, highest_moment, tolerance_field, time_field, distributions, weight_field, reward_field, rate_field}

-- M, R, ε in billionths, T in hours, how many starting distributions there are (one or none), the starting weights in millionths, f, and the
-- transition rates between two different states
pub record Model : Type 0 where
  pub states : ℕ
  pub highest : ℕ
  pub tolerance : ℕ
  pub time : ℕ
  pub distributions : ℕ
  pub start : ℕ → ℕ
  pub reward : ℕ → ℕ
  pub transition : ℕ → ℕ → ℕ

-- the model that a file's bytes state
abbrev pub model_of : List ℕ → Model
model_of s =
    record {
      states = state_count s;
      highest = highest_moment s;
      tolerance = tolerance_field s;
      time = time_field s;
      distributions = distributions s;
      start = weight_field s;
      reward = reward_field s;
      transition = rate_field s;
    }

-- the model m with the time T in the place of its own
abbrev pub at_time : Model → ℕ → Model
at_time m T =
    record {
      states = m.states;
      highest = m.highest;
      tolerance = m.tolerance;
      time = T;
      distributions = m.distributions;
      start = m.start;
      reward = m.reward;
      transition = m.transition;
    }

-- the model m with the reward rate x of state i in the place of its own (document 02, S-9)
abbrev pub at_reward : Model → ℕ → ℕ → Model
at_reward m i x =
    record {
      states = m.states;
      highest = m.highest;
      tolerance = m.tolerance;
      time = m.time;
      distributions = m.distributions;
      start = m.start;
      reward = λ j. pick (eqb j i) x (m.reward j);
      transition = m.transition;
    }

-- the rate from i to another state j, and 0 at j = i, which the file does not hold
unfoldable pub jump_rate : Model → ℕ → ℕ → ℕ
jump_rate m i j = pick (eqb j i) 0 (m.transition i j)

-- row i's sum
unfoldable pub row_sum : Model → ℕ → ℕ
row_sum m i = sum m.states (jump_rate m i)

-- E, the uniformization rate: the largest row sum, or 1 where all row sums are 0
unfoldable pub uniform_rate : Model → ℕ
uniform_rate m = max 1 (largest m.states (row_sum m))

-- c(i,j): the rate from i to j; on the diagonal E less row i's sum
unfoldable pub c : Model → ℕ → ℕ → ℕ
c m i j = pick (eqb j i) (uniform_rate m - row_sum m i) (m.transition i j)

-- F, the largest reward rate
unfoldable pub max_reward : Model → ℕ
max_reward m = largest m.states m.reward

-- X = E × T: the expected jump count q in millionths
unfoldable pub jump_millionths : Model → ℕ
jump_millionths m = uniform_rate m * m.time

-- what the steps need of a model: M, E, c, f and F. The steps speak of a Chain alone.
pub record Chain : Type 0 where
  pub states : ℕ
  pub rate : ℕ
  pub entry : ℕ → ℕ → ℕ
  pub reward : ℕ → ℕ
  pub largest_reward : ℕ

-- the uniformized chain of a model
abbrev pub chain_of : Model → Chain
chain_of m = record { states = m.states; rate = uniform_rate m; entry = c m; reward = m.reward; largest_reward = max_reward m }

-- a vector for 64 states: v at the states below M, 0 past them
unfoldable pub padded : ℕ → (ℕ → ℕ) → List ℕ
padded M v = firsts 64 (λ i. pick (ltb i M) (v i) 0)

-- the rows of a chain as they are lent to the steps, M places for each row, one row after another: the state and the entry of c in each place, and how
-- many places of each row are used
pub record Listing : Type 0 where
  pub targets : List ℕ
  pub rates : List ℕ
  pub counts : List ℕ

abbrev pub listed : List ℕ → List ℕ → List ℕ → Listing
listed targets rates counts = record { targets = targets; rates = rates; counts = counts }

-- place k of row i
abbrev pub target_at : ℕ → Listing → ℕ → ℕ → ℕ
target_at M a i k = get_or a.targets (i * M + k) 0

abbrev pub rate_at : ℕ → Listing → ℕ → ℕ → ℕ
rate_at M a i k = get_or a.rates (i * M + k) 0

-- the chain that stands in arrays, with M, E and F among its sizes: c(i,j) is what the places of row i have for j, 0 where none is for j; and f for 64
-- states
abbrev pub arrays : Sizes → Listing → List ℕ → Chain
arrays sizes a f =
    record {
      states = sizes.states;
      rate = sizes.rate;
      entry = λ i j. sum (get_or a.counts i 0) (λ k. pick (eqb (target_at sizes.states a i k) j) (rate_at sizes.states a i k) 0);
      reward = λ i. get_or f i 0;
      largest_reward = sizes.largest;
    }

-- the cells of one block: one for each r of each state, and one for each r of the starting distribution
abbrev pub block_of : Model → ℕ
block_of m = (m.states + m.distributions) * m.highest

-- M, R, the cells of a block, E and F of a model
abbrev pub sizes_of : Model → Sizes
sizes_of m = record { states = m.states; highest = m.highest; block = block_of m; rate = uniform_rate m; largest = max_reward m }
