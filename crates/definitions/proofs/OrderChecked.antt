-- What rests on another hand check: raised past the largest, B's reward rate lowers a cell.
use Rattle.std.specs.Prelude.{ℕ, List, [], ◌∷◌, get_or, replicate}
use Rattle.std.proofs.Common.{arith, ap}
use Rattle.definitions.specs.File.{with_reward}
use Rattle.definitions.specs.Order.{NoLower}
use Rattle.definitions.specs.HandChecked.{file_b}
use Rattle.definitions.specs.OrderChecked.{run_b, past_B}

pub past_lowers : NoLower (with_reward file_b 1 2) run_b (replicate 4 0) (718750000000 ∷ 612500000000 ∷ 281250000000 ∷ 175000000000 ∷ []) → ⊥
past_lowers h = omega (arith, h.no_lower 0, ap (λ (l : List ℕ). get_or l 0 0) past_B.1)
