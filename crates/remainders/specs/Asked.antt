-- What is asked of n, r and a state.
use Rattle.std.specs.Prelude.{ℕ, ◌≤◌, ◌<◌}
use Rattle.definitions.specs.declared.Sizes.{Sizes}

-- U(n,r) at i, counted from 0, comes about by three divisions
pub record Askable (z : Sizes) (n r i : ℕ) : Type 0 where
  pub highest_max : z.highest ≤ 8
  pub jumps_min : 1 ≤ n
  pub jumps_max : n ≤ 1024
  pub moment_min : 1 ≤ r
  pub moment_max : r ≤ z.highest
  pub state : i < z.states
