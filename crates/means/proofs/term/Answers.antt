-- `means::term` meets its contract. Assumes nothing.
use Rattle.std.proofs.Common.{ap, ◌*◌, arith}
use Rattle.definitions.specs.Vectors.{ONE}
use Rattle.definitions.specs.Moment.{term}
use Rattle.laws.specs.Rounding.{quotient, drops}
use Rattle.means.proofs.term.Goals as goal

pub returns : goal.returns
unfolding term
returns c = (ap quotient c.over_trillion.ensures, drops (c.args.w * c.args.u) ONE c.over_trillion.ensures (omega arith))
