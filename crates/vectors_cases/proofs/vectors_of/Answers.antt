-- Only an accepted file is read.
use Rattle.std.proofs.Common.{sym, ◌∙◌, ap, arith}
use Rattle.definitions.specs.Rules.{judgement}
use Rattle.laws.specs.Acceptance.{accepted_file}
use Rattle.vectors_cases.proofs.vectors_of.Goals as goal

pub accepted_vectors-requires : goal.accepted_vectors-requires
accepted_vectors-requires c = (accepted_file _ _ (ap (λ s. judgement s 520) c.in-Ok.ensures.same ∙ sym c.in-Ok.ensures.judged), omega arith)
