-- `reader::Head::distributions` meets its contract. Assumes nothing.
use Rattle.std.proofs.Common.{arith}
use Rattle.laws.specs.ChainLaws.{version_2, other_version}
use Rattle.reader.proofs.Head.distributions.Goals as goal

pub returns-then-version-eq2 : goal.returns-then-version-eq2
returns-then-version-eq2 c = omega (arith, version_2 c.args.self.now (omega (arith, c.version.ensures, c.if-version-eq2)))

pub returns-else-version-eq2 : goal.returns-else-version-eq2
returns-else-version-eq2 c = omega (arith, other_version c.args.self.now (λ e. omega (arith, e, c.version.ensures, c.if-version-eq2)))
