-- `refusals::starts_at_zero` meets its contract: it asks the first time, where there is one. Assumes nothing.
use Rattle.std.proofs.Common.{arith, rules, length}
use Rattle.std.proofs.Math.Decide.{dec_lt}
use Rattle.refusals.specs.Times.{without_a_time, with_a_time}
use Rattle.refusals.proofs.starts_at_zero.Goals as goal

pub returns : goal.returns
returns c =
    let times = c.args.times.now in
    elim (dec_lt 0 (length times)) [
      | yes some ↦ rw (with_a_time times some) (search rules)
      | no none ↦ rw (without_a_time times (omega (arith, none))) (search rules)
    ]
