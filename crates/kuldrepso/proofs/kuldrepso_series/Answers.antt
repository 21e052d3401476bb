-- Each arm returns the plain number of the answer, and leaves the count that it says; the rest is as the call has it.
use Rattle.std.specs.Prelude.{◌≡◌, length, ℕ, Result}
use Rattle.std.proofs.Common.{◌∙◌, sym, ap, arith}
use Rattle.definitions.specs.declared.Refusal.{Refusal}
use Rattle.definitions.specs.Rules.{answer_of}
use Rattle.definitions.specs.Series.{series_outcome}
use Rattle.kuldrepso.specs.Plain.{plain_answer}
use Rattle.kuldrepso.specs.PlainLaws.{series_told}
use Rattle.kuldrepso.proofs.kuldrepso_series.Goals.{After-series}
use Rattle.kuldrepso.proofs.kuldrepso_series.Goals as goal

-- the outcome, as the case of the enum that an arm has
answered : (c : After-series) (o : Result ℕ Refusal) → c.series.result ≡ o →
    let args = c.args in
    series_outcome args.file.now args.times.now (length args.levels.now) (length args.cells.now) ≡ answer_of o
answered c o told = sym c.series.ensures.answer ∙ ap answer_of told

pub returns-in-Ok : goal.returns-in-Ok
unfolding plain_answer
returns-in-Ok c =
    let told = c.in-Ok.is in
    let call = c.series.ensures in
    let same = answered (goal.at.returns-in-Ok c).After-series _ told in
    rw same (record {
      answer = series_told _ _ _ _ _ same _ (omega arith);
      levels = rw told at call.levels;
      cells = rw told at call.cells;
      promise = rw told at call.promise;
      runs = rw told at call.runs;
      bounded = rw told at call.bounded;
      order = rw told at call.order;
      raised = rw told at call.raised;
      means = omega arith;
    })

pub returns-in-Err : goal.returns-in-Err
unfolding plain_answer
returns-in-Err c =
    let told = c.in-Err.is in
    let call = c.series.ensures in
    let same = answered (goal.at.returns-in-Err c).After-series _ told in
    rw same (record {
      answer = series_told _ _ _ _ _ same _ (omega arith);
      levels = rw told at call.levels;
      cells = rw told at call.cells;
      promise = rw told at call.promise;
      runs = rw told at call.runs;
      bounded = rw told at call.bounded;
      order = rw told at call.order;
      raised = rw told at call.raised;
      means = omega arith;
    })
