-- `search` would prove it with no file; this one makes the refusal of a wrong part say where it fails.
use Rattle.std.specs.Prelude.{◌≡◌}
use Rattle.std.proofs.Common.{rules}
use Rattle.reader.proofs.ModelFile.bytes.Goals as goal

pub returns-clause-same : goal.returns-clause-same
returns-clause-same c =
    let same : c.self-inside.inside.0.0.bytes.now ≡ c.args.self.now = search rules in
    same
