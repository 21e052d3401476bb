-- Each arm returns the plain number of the outcome, and leaves the count that it says; the rest is as the call has it.
use Rattle.std.specs.Prelude.{◌≡◌, length, Result}
use Rattle.std.proofs.Common.{◌∙◌, sym, ap, arith}
use Rattle.definitions.specs.declared.Refusal.{Refusal}
use Rattle.definitions.specs.declared.Run.{Run}
use Rattle.definitions.specs.Rules.{answer_of}
use Rattle.definitions.specs.Moment.{outcome}
use Rattle.kuldrepso.specs.Plain.{plain_answer}
use Rattle.kuldrepso.proofs.PlainLaws.{outcome_told, bound_meant}
use Rattle.kuldrepso.proofs.kuldrepso_calculate.Goals.{After-calculate}
use Rattle.kuldrepso.proofs.kuldrepso_calculate.Goals as goal

-- the outcome, as the case of the enum that an arm has
answered : (c : After-calculate) (o : Result Run Refusal) → c.calculate.result ≡ o →
    let args = c.args in
    outcome args.file.now (length args.cells.now) ≡ answer_of o
answered c o told = sym c.calculate.ensures.outcome ∙ ap answer_of told

pub returns-in-Ok : goal.returns-in-Ok
unfolding plain_answer
returns-in-Ok c =
    let told = c.in-Ok.is in
    let call = c.calculate.ensures in
    let same = answered (goal.at.returns-in-Ok c).After-calculate _ told in
    rw same (record {
      answer = outcome_told _ _ _ same _ (omega arith);
      cells = rw told at call.cells;
      promise = rw told at call.promise;
      bounded = bound_meant _ _ _ same (rw told at call.bounded);
      order = rw told at call.order;
      raised = rw told at call.raised;
      means = omega arith;
    })

pub returns-in-Err : goal.returns-in-Err
unfolding plain_answer
returns-in-Err c =
    let told = c.in-Err.is in
    let call = c.calculate.ensures in
    let same = answered (goal.at.returns-in-Err c).After-calculate _ told in
    rw same (record {
      answer = outcome_told _ _ _ same _ (omega arith);
      cells = rw told at call.cells;
      promise = rw told at call.promise;
      bounded = rw c.refused.ensures (bound_meant _ _ _ same (rw told at call.bounded));
      order = rw told at call.order;
      raised = rw told at call.raised;
      means = omega arith;
    })
