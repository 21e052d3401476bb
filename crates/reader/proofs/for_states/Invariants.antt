use Rattle.std.specs.Prelude.{ℕ, ◌<◌, ◌≡◌}
use Rattle.definitions.specs.Sums.{over}
use Rattle.reader.proofs.for_states.Given as goal

abbrev pub invariant-loop-i : goal.invariant-loop-i
invariant-loop-i g l = (v : ℕ → ℕ) → ((i x : ℕ) → i < l.states → goal.F-post g l.f i x → x ≡ v i) → l.value-items ≡ over l.i v l.initial.value-items
