-- What rests on another hand check: the wrong values of "Where hand solutions go wrong" are not the right ones.
use Rattle.std.specs.Prelude.{◌≢◌}
use Rattle.std.proofs.Common.{arith}
use Rattle.definitions.specs.Vectors.{U}
use Rattle.definitions.specs.HandChecked.{chain_b, right_values}

pub wrong_values : (U chain_b 1 1 1 ≢ 250000000000) × (U chain_b 1 2 0 ≢ 666666666666)
wrong_values = (omega (arith, right_values.0), omega (arith, right_values.1))
