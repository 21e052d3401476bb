-- Byte by byte the text stands there. Assumes nothing.
use Rattle.std.proofs.Common.{◌∙◌, arith, ext_get_or}
use Rattle.std.proofs.Math.Decide.{ℕ_discrete}
use Rattle.std.proofs.lemmas.List.{get_or-set_same, get_or-set_other}
use Rattle.writing.proofs.store.Goals as goal

pub loop-k-init : goal.loop-k-init
loop-k-init c = λ i below. absurd (omega (arith, below))

pub loop-k-preserved : goal.loop-k-preserved
loop-k-preserved c = λ i below. elim (ℕ_discrete i c.loop-k.k) [
  | yes here ↦ rw here (get_or-set_same c.loop-k.bytes c.loop-k.k _ 0 (omega arith))
  | no other ↦ get_or-set_other c.loop-k.bytes c.loop-k.k i _ 0 other ∙ c.loop-k.invariant i (omega (arith, other, below))
]

pub returns : goal.returns
returns c = ext_get_or 0 _ c.args.text.now (omega arith) (λ i below. c.loop-k.invariant i (omega (arith, below)))
