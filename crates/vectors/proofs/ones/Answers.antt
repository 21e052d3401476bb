-- `vectors::ones` meets its contract. Assumes nothing.
use Rattle.std.proofs.Common.{◌∙◌, replicate, arith}
use Rattle.definitions.specs.Vectors.{ONE}
use Rattle.laws.specs.ArrayLaws.{length_zeros, zeros, over_padded}
use Rattle.vectors.proofs.Filled.{filled_over}
use Rattle.vectors.proofs.ones.Goals as goal

pub returns : goal.returns
unfolding zeros
returns c = filled_over c.args.states ONE c.fill.new.self (replicate 64 0) (omega (arith, length_zeros 64)) (c.fill.ensures.after (λ y e. e)) ∙ over_padded c.args.states (λ i. ONE) c.requires
