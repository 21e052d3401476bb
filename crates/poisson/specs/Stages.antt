-- What `truncate` returns and writes.
use Rattle.std.specs.Prelude.{List, ◌≡◌, ℕ, ◌+◌}
use Rattle.definitions.specs.Sums.{over}
use Rattle.definitions.specs.Weights.{weight, weight_sum}
use Rattle.definitions.specs.Level.{level}

-- N is the level of X and the tolerance ε, S is S(N), and w(0) to w(N) stand in the array; its entries past N are as before
pub record Truncated (X ε N S : ℕ) (before after : List ℕ) : Type 0 where
  pub is_level : N ≡ level X ε
  pub is_sum : S ≡ weight_sum X (level X ε)
  pub weights : after ≡ over (level X ε + 1) (weight X) before
