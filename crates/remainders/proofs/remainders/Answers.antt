-- `remainders::remainders` meets its contract: rows 1 to 12 and 16, then what an accepted file gives. Assumes nothing.
use mathlib.Core.Path.{◌≡◌, ◌∙◌, sym, ap, subst}
use Rattle.std.specs.Prelude.{Err}
use Rattle.std.proofs.Common.{rules}
use Rattle.definitions.specs.Rules.{accepted}
use Rattle.definitions.specs.Remainders.{remainders_of, WorkedOut}
use Rattle.laws.specs.Acceptance.{accepted_model}
use Rattle.laws.specs.RemainderLaws.{remainders_refused, remainders_accepted, worked_out}
use Rattle.remainders.proofs.remainders.Goals as goal
use Rattle.remainders.proofs.remainders.Goals.{After-answer}

pub returns-in_err-file-clause-answer : goal.returns-in_err-file-clause-answer
returns-in_err-file-clause-answer c =
    let args = c.args in
    let gave : c.from_residual.result ≡ Err c.in_err-file.field-0.0 = search rules in
    rw gave (sym (remainders_refused args.bytes.now args.state args.n args.r _ (sym c.in_err-file.ensures.judged)))

pub new-requires : goal.new-requires
new-requires c =
    let is : c.in_ok-file.file ≡ c.args.bytes.now = c.in_ok-file.ensures.same in
    rw is (accepted_model 1 2 c.args.bytes.now (sym c.in_ok-file.ensures.judged))

-- what an accepted file answers:
-- what it gives, or none
answer : (c : After-answer) →
    let args = c.args in
    accepted c.answer.result ≡ remainders_of args.bytes.now args.state args.n args.r
answer c =
    let args = c.args in
    let is : c.in_ok-file.file ≡ args.bytes.now = c.in_ok-file.ensures.same in
    ap (λ x. accepted x) (rw (c.new.ensures, is) at c.answer.ensures) ∙ sym (remainders_accepted args.bytes.now args.state args.n args.r (sym c.in_ok-file.ensures.judged))

pub returns-clause-answer : goal.returns-clause-answer
returns-clause-answer c = answer (goal.at.returns-clause-answer c).After-answer

pub returns-clause-worked : goal.returns-clause-worked
returns-clause-worked c =
    let args = c.args in
    subst (λ x. WorkedOut x args.bytes.now args.state args.n args.r) (sym (answer (goal.at.returns-clause-worked c).After-answer)) (worked_out args.bytes.now args.state args.n args.r)
