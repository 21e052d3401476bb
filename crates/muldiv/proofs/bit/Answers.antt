-- `muldiv::bit` meets its contract. `search` would prove it with no file; this one makes the refusal of a wrong bit say where it fails, with
-- numbers in which 2 ^ k is not 0. Assumes nothing.
use Rattle.std.proofs.Common.{pow_pos, arith}
use Rattle.muldiv.proofs.bit.Goals as goal

pub returns : goal.returns
returns c = omega (arith, pow_pos c.args.k)
