-- `refusals::judge_series` meets its contract: the rows that all calls share, then those of the list, the jumps and the room. Assumes nothing.
use Rattle.std.specs.Prelude.{ℕ, ◌*◌, ◌≡◌, refl, List, ◌++◌, length, Err}
use Rattle.std.proofs.Common.{◌∙◌, sym, arith, rules}
use Rattle.definitions.specs.Rules.{Rows, listing, last_time, jumps, room, block_size, judged_by, series_judgement}
use Rattle.laws.specs.Acceptance.{rateable, series_in_parts}
use Rattle.refusals.proofs.judge_series.Goals.{In_ok-file}
use Rattle.refusals.proofs.judge_series.Goals as goal

-- the rows of the list, the jumps and the room
abbrev listed : (s times : List ℕ) (E levels cells : ℕ) → Rows
listed s times E levels cells = listing times ++ jumps E (last_time times) ++ room (length times * block_size s) cells ++ room (length times) levels

pub returns-in_err-file-clause-judged : goal.returns-in_err-file-clause-judged
returns-in_err-file-clause-judged c =
    let args = c.args in
    let gave : c.from_residual.result ≡ Err c.in_err-file.field-0.0 = search rules in
    rw gave (sym (series_in_parts args.bytes.now args.times.now args.levels args.cells ∙ rw (sym c.in_err-file.ensures.rated) refl))

pub judge_times-requires : goal.judge_times-requires
judge_times-requires c =
    let s = c.args.bytes.now in
    let is : c.in_ok-file.file ≡ s = c.in_ok-file.ensures.same in
    let told = rateable 1 2 s c.args.times.now _ (sym c.in_ok-file.ensures.rated) in
    rw is (told.highest_max, omega arith)

-- past the shared rows the others answer
module _ (c : In_ok-file) where
  others_answer : judged_by (listed c.args.bytes.now c.args.times.now c.in_ok-file.rate c.args.levels c.args.cells) ≡ series_judgement c.args.bytes.now c.args.times.now c.args.levels c.args.cells
  others_answer =
      let args = c.args in
      let told = rateable 1 2 args.bytes.now args.times.now _ (sym c.in_ok-file.ensures.rated) in
      rw told.rate (sym (series_in_parts args.bytes.now args.times.now args.levels args.cells ∙ rw (sym c.in_ok-file.ensures.rated) refl))

pub returns-in_err-judge_times-clause-judged : goal.returns-in_err-judge_times-clause-judged
returns-in_err-judge_times-clause-judged c =
    let is : c.in_ok-file.file ≡ c.args.bytes.now = c.in_ok-file.ensures.same in
    let gave : c.from_residual-in_err-judge_times.result ≡ Err c.in_err-judge_times.field-0.0 = search rules in
    rw gave (rw is at c.in_err-judge_times.ensures ∙ others_answer (goal.at.returns-in_err-judge_times-clause-judged c).In_ok-file)

pub returns-clause-judged : goal.returns-clause-judged
returns-clause-judged c =
    let is : c.in_ok-file.file ≡ c.args.bytes.now = c.in_ok-file.ensures.same in
    rw is at c.in_ok-judge_times.ensures ∙ others_answer (goal.at.returns-clause-judged c).In_ok-file
