-- The row that is lent to the steps lists the states that it adds.
use Rattle.std.specs.Prelude.{ℕ, ◌<◌}
use Rattle.std.proofs.Common.{arith}
use Rattle.definitions.specs.Chain.{Model}
use Rattle.definitions.specs.Arrows.{arrows, added_states, ListsRow}
use Rattle.laws.specs.ArrowLaws.{is_in_falling, falling_falls, others_falling}

module _ (m : Model) (i : ℕ) where
  -- the states that a row's mean adds, as a row that is lent to the steps
  pub row_listed : i < m.states → ListsRow m i (added_states m i)
  unfolding added_states arrows
  row_listed l = grind (arith, others_falling, is_in_falling, falling_falls)
