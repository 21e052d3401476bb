-- The part that is filled is zeros. Assumes nothing.
use Rattle.std.proofs.Common.{◌∙◌, ℕ, refl, ap, replicate, arith}
use Rattle.std.proofs.lemmas.List.{length-replicate}
use Rattle.writing.specs.Puts.{stored}
use Rattle.writing.proofs.Pen.put_zeros.Goals as goal

pub returns : goal.returns
returns c = stored _ (c.fill.ensures.after (λ y same. same) ∙ ap (λ (n : ℕ). replicate n 0) (omega arith)) (length-replicate c.args.count 0) (omega arith) refl refl refl
