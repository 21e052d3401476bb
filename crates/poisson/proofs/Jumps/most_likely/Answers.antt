-- The weights start at m, with 10^15. Assumes nothing.
use Rattle.std.proofs.Common.{sym, ap, ◌∙◌, arith}
use Rattle.definitions.specs.Weights.{weight}
use Rattle.laws.specs.WeightLaws.{weight_mode}
use Rattle.poisson.proofs.Jumps.most_likely.Goals as goal

pub invariant_of-result : goal.invariant_of-result
invariant_of-result c = record { weighed = sym (ap (weight c.args.x) c.mode_of.ensures ∙ weight_mode c.args.x); limited = omega arith }
