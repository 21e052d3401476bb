-- At n the table holds the vectors of n − 1, and their row means are counted.
use Rattle.std.proofs.Common.{◌+◌, ◌-◌, ◌≡◌, ◌≤◌}
use Rattle.definitions.specs.Vectors.{row_means}
use Rattle.vectors.specs.Table.{table_of}
use Rattle.vectors.specs.Lent.{chain_in}
use Rattle.vectors_cases.proofs.tables.Given as goal

abbrev pub invariant-loop-n : goal.invariant-loop-n
invariant-loop-n l = record {
  low : 1 ≤ l.n;
  within : l.n ≤ l.last + 1;
  counted : l.taken ≡ row_means (l.n - 1) l.sizes.states l.sizes.highest;
  filled : l.current ≡ table_of (chain_in l.chain) l.sizes.highest (l.n - 1);
}
