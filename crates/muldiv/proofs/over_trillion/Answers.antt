-- `muldiv::over_trillion` meets its contract. Assumes nothing.
use Rattle.std.proofs.Common.{◌*◌, arith}
use Rattle.laws.specs.Rounding.{division_is, divides_in_parts}
use Rattle.muldiv.proofs.over_trillion.Goals as goal

pub returns : goal.returns
returns c = division_is (c.args.a * c.args.b) (1000000 * 1000000) _ _ (omega (arith, divides_in_parts c.args.a c.args.b 1000000 (omega arith)))
