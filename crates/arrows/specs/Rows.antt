-- What is asked where a row of a file is listed, and what is kept while it is. Assumes nothing: these are definitions.
use Rattle.std.specs.Prelude.{ℕ, ◌+◌, ◌*◌, ◌-◌, ◌≤◌, ◌<◌, ◌^◌, ◌≡◌, List, map, length}
use Rattle.std.proofs.lemmas.List.Edits.{sets}
use Rattle.definitions.specs.File.{state_count}
use Rattle.definitions.specs.Chain.{Model, model_of, row_sum, uniform_rate, c}
use Rattle.definitions.specs.Arrows.{falling, is_added, added_states}

-- row i of a file, what stands on its diagonal, and how many places are lent
pub record RowAsked (s : List ℕ) (i diagonal places : ℕ) : Type 0 where
  pub state : i < state_count s
  pub stays : diagonal ≡ uniform_rate (model_of s) - row_sum (model_of s) i
  pub stays_max : diagonal < 2 ^ 32
  pub room : state_count s * state_count s ≤ places

-- row i listed down to state j, in k places from the first on: with the states below j in the places after them the whole row is listed
pub record DownTo (m : Model) (i first j k : ℕ) (targets₀ rates₀ targets rates : List ℕ) : Type 0 where
  pub count : k + length (falling (is_added m i) j) ≡ length (added_states m i)
  pub in_targets : sets targets (first + k) (falling (is_added m i) j) ≡ sets targets₀ first (added_states m i)
  pub in_rates : sets rates (first + k) (map (c m i) (falling (is_added m i) j)) ≡ sets rates₀ first (map (c m i) (added_states m i))
  pub same_targets : length targets ≡ length targets₀
  pub same_rates : length rates ≡ length rates₀
