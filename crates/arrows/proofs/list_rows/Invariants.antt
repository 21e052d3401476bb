use Rattle.std.proofs.Common.{◌≡◌, List, ℕ, map, length}
use Rattle.definitions.specs.Sums.{over, rows_stored}
use Rattle.definitions.specs.File.{state_count}
use Rattle.definitions.specs.Chain.{Model, model_of, c}
use Rattle.definitions.specs.Arrows.{added_states}
use Rattle.vectors.specs.Arrows.{targets_of, rates_of}
use Rattle.arrows.proofs.list_rows.Given as goal

-- row i's states, entries and their number
abbrev pub entries : Model → ℕ → List ℕ
entries m i = map (c m i) (added_states m i)

abbrev pub number : Model → ℕ → ℕ
number m i = length (added_states m i)

abbrev pub invariant-loop-i : goal.invariant-loop-i
invariant-loop-i l = record {
  targets : targets_of l.arrows ≡ rows_stored (added_states (model_of l.file)) (state_count l.file) l.i (targets_of l.initial.arrows);
  rates : rates_of l.arrows ≡ rows_stored (entries (model_of l.file)) (state_count l.file) l.i (rates_of l.initial.arrows);
  counts : l.counts ≡ over l.i (number (model_of l.file)) l.initial.counts;
}
