-- `search` would prove it with no file; this one makes the refusal of a wrong limit say where it fails.
use mathlib.Core.Path.{◌≡◌}
use Rattle.std.proofs.Common.{rules}
use Rattle.definitions.specs.Rules.{outside}
use Rattle.remainders.proofs.Question.is_outside.Goals as goal
use Rattle.remainders.proofs.Question.is_outside.Goals.{then-outside, else-outside}

pub returns-then-outside-2 : goal.returns-then-outside-2
returns-then-outside-2 c =
    elim c.if-outside.branch [
      | then-outside w ↦ search rules
      | else-outside w ↦
          let jumps : w.outside-else-outside.result ≡ outside 1 c.args.level c.args.self.n = w.outside-else-outside.ensures in
          search rules
    ]
