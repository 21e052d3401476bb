-- `refusals::judge_file` meets its contract: the rows that all calls share, then the jumps. Assumes nothing.
use Rattle.std.specs.Prelude.{◌≡◌, refl, List, [], ◌++◌, Err, ℕ}
use Rattle.std.proofs.Common.{◌∙◌, sym, arith, rules}
use Rattle.definitions.specs.File.{time_field}
use Rattle.definitions.specs.Chain.{model_of, uniform_rate}
use Rattle.definitions.specs.Refusal.{row_of}
use Rattle.definitions.specs.Rules.{refused, first_held, framing, quantities, jumps, judged_by, file_judgement}
use Rattle.laws.specs.RowLaws.{same_jumps}
use Rattle.laws.specs.Acceptance.{rateable, file_in_parts}
use Rattle.refusals.proofs.judge_file.Goals.{After-time}
use Rattle.refusals.proofs.judge_file.Goals as goal

pub returns-in_err-file-clause-judged : goal.returns-in_err-file-clause-judged
returns-in_err-file-clause-judged c =
    let args = c.args in
    let gave : c.from_residual.result ≡ Err c.in_err-file.field-0.0 = search rules in
    let s = args.bytes.now in
    let stopped : refused (row_of c.in_err-file.field-0.0) ≡ first_held (framing args.low args.high s ++ quantities (model_of s) []) (uniform_rate (model_of s)) = c.in_err-file.ensures.rated in
    rw gave (sym (file_in_parts args.low args.high s ∙ rw (sym stopped) refl))

pub judge_jumps-requires : goal.judge_jumps-requires
judge_jumps-requires c =
    let args = c.args in
    let told = rateable args.low args.high args.bytes.now [] _ (sym c.in_ok-file.ensures.rated) in
    omega (arith, told)

-- past the shared rows the jumps answer
module _ (c : After-time) where
  abbrev s : List ℕ
  s = c.args.bytes.now

  jumps_answer : judged_by (jumps c.in_ok-file.rate c.time.result) ≡ file_judgement c.args.low c.args.high s
  jumps_answer =
      let args = c.args in
      let is : c.in_ok-file.file ≡ s = c.in_ok-file.ensures.same in
      let opened : c.file.inside.head ≡ c.in_ok-file.file = c.file.view_is in
      let time : c.time.result ≡ time_field s = rw (opened, is) at c.time.ensures in
      let told = rateable args.low args.high s [] _ (sym c.in_ok-file.ensures.rated) in
      same_jumps (uniform_rate (model_of s)) (time_field s) told.rate time
      ∙ sym (file_in_parts args.low args.high s ∙ rw (sym c.in_ok-file.ensures.rated) refl)

pub returns-in_err-judge_jumps-clause-judged : goal.returns-in_err-judge_jumps-clause-judged
returns-in_err-judge_jumps-clause-judged c =
    let gave : c.from_residual-in_err-judge_jumps.result ≡ Err c.in_err-judge_jumps.field-0.0 = search rules in
    rw gave (c.in_err-judge_jumps.ensures ∙ jumps_answer (goal.at.returns-in_err-judge_jumps-clause-judged c).After-time)

pub returns-clause-judged : goal.returns-clause-judged
returns-clause-judged c = c.in_ok-judge_jumps.ensures ∙ jumps_answer (goal.at.returns-clause-judged c).After-time
