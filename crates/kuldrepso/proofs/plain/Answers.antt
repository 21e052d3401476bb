-- Each arm returns the plain number of the answer.
use Rattle.std.specs.Prelude.{ℕ, Result}
use Rattle.std.proofs.Common.{ap, arith}
use Rattle.definitions.specs.declared.Refusal.{Refusal}
use Rattle.definitions.specs.Rules.{answer_of}
use Rattle.kuldrepso.specs.Plain.{plain_answer}
use Rattle.kuldrepso.proofs.plain.Goals as goal

-- the plain number of an answer of the enum
abbrev plain : Result ℕ Refusal → ℕ
plain o = plain_answer (answer_of o)

pub returns-in-Ok : goal.returns-in-Ok
unfolding plain_answer
returns-in-Ok c = omega (arith, ap plain c.in-Ok.is)

pub returns-in-Err : goal.returns-in-Err
unfolding plain_answer
returns-in-Err c = omega (arith, ap plain c.in-Err.is)
