-- The first count bytes, or all where there are no more, are the file. Assumes nothing.
use Rattle.std.proofs.Common.{◌≡◌, ◌∙◌, sym, ap, ℕ, length, min, arith}
use Rattle.std.proofs.lemmas.List.{take_min}
use Rattle.laws.proofs.SheetLaws.{sheet_denotes}
use Rattle.report.specs.ReportLaws.{held_sheet}
use Rattle.report.proofs.report.Goals as goal

pub returns : goal.returns
returns c =
    let args = c.args in
    let long : length args.buffer.now ≡ 16654 = omega arith in
    let counted : c.min.result ≡ min args.count (length args.buffer.now) = c.min.ensures ∙ ap (λ (n : ℕ). min args.count n) (sym long) in
    let file = rw (counted, take_min args.count args.buffer.now) at c.report_file.ensures in
    record {
      file = file;
      input = held_sheet args.buffer.now args.count long file;
      figures = sheet_denotes _;
    }
