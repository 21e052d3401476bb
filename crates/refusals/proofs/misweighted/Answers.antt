-- `search` would prove it with no file; this one makes the refusal of a wrong sum say where it fails.
use Rattle.std.specs.Prelude.{ℕ, ◌<◌, ◌≡◌, not, eqb}
use Rattle.std.proofs.Common.{sym, ◌∙◌, ap}
use Rattle.definitions.specs.File.{distributions}
use Rattle.definitions.specs.Chain.{model_of}
use Rattle.laws.specs.RowLaws.{with_start}
use Rattle.refusals.proofs.misweighted.Goals as goal

pub returns-then-distributions-gt0 : goal.returns-then-distributions-gt0
returns-then-distributions-gt0 c =
    let is : c.file.inside.head ≡ c.args.file.now = c.file.view_is in
    let some : 0 < distributions c.args.file.now = rw (c.distributions.ensures, is) at c.if-distributions-gt0.true in
    ap (λ (n : ℕ). not (eqb n 1000000)) c.weight_sum.ensures ∙ sym (with_start (model_of c.args.file.now) some)
