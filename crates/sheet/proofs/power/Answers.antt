-- `sheet::power` meets its contract: the table is the list of the first twenty powers, which antt computes. Assumes nothing.
use Rattle.std.specs.Prelude.{◌^◌}
use Rattle.std.proofs.Common.{rules}
use Rattle.definitions.specs.Sums.{firsts}
use Rattle.laws.specs.ListLaws.{get_d_firsts}
use Rattle.sheet.proofs.power.Goals as goal

pub returns : goal.returns
unfolding firsts
returns c = get_d_firsts 0 20 (λ p. 10 ^ p) c.args.p (search rules)
