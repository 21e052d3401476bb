-- `search` would prove it with no file; this one makes the refusal of a wrong row say where it fails.
use Rattle.std.specs.Prelude.{drop}
use Rattle.std.proofs.Common.{◌∙◌, ap₂}
use borrow.Author.Rules.{part_to_end}
use Rattle.reader.proofs.ModelFile.row.Goals as goal

pub returns : goal.returns
returns c = part_to_end c.bytes.result.now c.row_at.result ∙ ap₂ drop c.row_at.ensures c.bytes.ensures.same
