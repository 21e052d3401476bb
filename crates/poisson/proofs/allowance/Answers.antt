-- `poisson::allowance` meets its contract. Assumes nothing.
use Rattle.std.proofs.Common.{◌*◌, ap, arith}
use Rattle.definitions.specs.Level.{BILLION}
use Rattle.laws.specs.Rounding.{quotient, drops}
use Rattle.muldiv.specs.QuotientLaws.{scalable_part}
use Rattle.poisson.proofs.allowance.Goals as goal

pub scaled-allowed-requires : goal.scaled-allowed-requires
scaled-allowed-requires c = scalable_part c.args.sum c.args.tolerance BILLION (omega arith) (omega arith) (omega arith) (omega arith)

pub returns : goal.returns
returns c =
    let product = c.args.sum * c.args.tolerance in
    (ap quotient c.scaled-allowed.ensures, drops product BILLION c.scaled-allowed.ensures (omega arith))
