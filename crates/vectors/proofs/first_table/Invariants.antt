use Rattle.std.proofs.Common.{◌≡◌, ◌+◌, ◌≤◌}
use Rattle.definitions.specs.Sums.{over}
use Rattle.definitions.specs.Chain.{Listing, arrays}
use Rattle.definitions.specs.Vectors.{vector}
use Rattle.vectors.specs.Table.{blank}
use Rattle.vectors.proofs.first_table.Given as goal

abbrev pub invariant-loop-r : goal.invariant-loop-r
invariant-loop-r l = record {
  within : l.r ≤ l.sizes.highest + 1;
  filled : (a : Listing) → l.table ≡ over l.r (vector (arrays l.sizes a l.rewards) 0) blank;
}
