-- 256 places are enough for 16 states, and 4,096 for 64.
use Rattle.std.proofs.Common.{◌≤◌, ap, arith}
use Rattle.definitions.specs.File.{state_count}
use Rattle.laws.specs.ChainLaws.{square_max}
use Rattle.moments.proofs.fill.Goals as goal

pub fill_with-requires-clause-places : goal.fill_with-requires-clause-places
fill_with-requires-clause-places c =
    let few : state_count c.args.file.now ≤ 16 = omega (arith, c.state_count.ensures, ap state_count c.file.view_is) in
    (square_max (state_count c.args.file.now) 16 few, omega arith)
