-- The plain number of each arm is that of what the call answered, and the three numbers are those that it gives.
use Rattle.std.proofs.Common.{◌≡◌, ◌∙◌, sym, ap, arith}
use Rattle.std.specs.Prelude.{Option, Result, Ok}
use Rattle.definitions.specs.declared.Refusal.{Refusal}
use Rattle.definitions.specs.declared.Rests.{Rests}
use Rattle.definitions.specs.Rules.{answer_of}
use Rattle.definitions.specs.Remainders.{remainders_of}
use Rattle.kuldrepso.specs.Plain.{plain_answer}
use Rattle.kuldrepso.specs.PlainLaws.{remainders_told}
use Rattle.kuldrepso.proofs.kuldrepso_remainders.Goals as goal
use Rattle.kuldrepso.proofs.kuldrepso_remainders.Goals.{After-remainders}

-- what the call answered, as the case that the arm has
answered : (c : After-remainders) (o : Result (Option Rests) Refusal) → c.remainders.result ≡ o →
    let args = c.args in
    remainders_of args.file.now args.state args.n args.r ≡ answer_of o
answered c o told = sym c.remainders.ensures.answer ∙ ap answer_of told

pub returns-in-Ok-Some-clause-answer : goal.returns-in-Ok-Some-clause-answer
unfolding plain_answer
returns-in-Ok-Some-clause-answer c =
    let same = answered (goal.at.returns-in-Ok-Some-clause-answer c).After-remainders _ (c.in-Ok-Some.is ∙ ap Ok c.in-Ok-Some.field-0-is) in
    rw same (remainders_told _ same _ (omega arith))

pub returns-in-Ok-Some-clause-mean : goal.returns-in-Ok-Some-clause-mean
returns-in-Ok-Some-clause-mean c =
    let same = answered (goal.at.returns-in-Ok-Some-clause-mean c).After-remainders _ (c.in-Ok-Some.is ∙ ap Ok c.in-Ok-Some.field-0-is) in
    rw same (omega arith)

pub returns-in-Ok-Some-clause-share : goal.returns-in-Ok-Some-clause-share
returns-in-Ok-Some-clause-share c =
    let same = answered (goal.at.returns-in-Ok-Some-clause-share c).After-remainders _ (c.in-Ok-Some.is ∙ ap Ok c.in-Ok-Some.field-0-is) in
    rw same (omega arith)

pub returns-in-Ok-Some-clause-mix : goal.returns-in-Ok-Some-clause-mix
returns-in-Ok-Some-clause-mix c =
    let same = answered (goal.at.returns-in-Ok-Some-clause-mix c).After-remainders _ (c.in-Ok-Some.is ∙ ap Ok c.in-Ok-Some.field-0-is) in
    rw same (omega arith)

pub returns-in-Ok-None-clause-answer : goal.returns-in-Ok-None-clause-answer
unfolding plain_answer
returns-in-Ok-None-clause-answer c =
    let same = answered (goal.at.returns-in-Ok-None-clause-answer c).After-remainders _ (c.in-Ok-None.is ∙ ap Ok c.in-Ok-None.field-0-is) in
    rw same (remainders_told _ same _ (omega arith))

pub returns-in-Err-clause-answer : goal.returns-in-Err-clause-answer
unfolding plain_answer
returns-in-Err-clause-answer c =
    let same = answered (goal.at.returns-in-Err-clause-answer c).After-remainders _ c.in-Err.is in
    rw same (remainders_told _ same _ (omega arith))
