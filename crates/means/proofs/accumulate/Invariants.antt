use Rattle.std.proofs.Common.{◌≡◌, ◌+◌, ◌-◌, ◌≤◌}
use Rattle.definitions.specs.Vectors.{row_means}
use Rattle.vectors.specs.Lent.{chain_in}
use Rattle.vectors.specs.Table.{table_of}
use Rattle.means.specs.Running.{part_sums}
use Rattle.means.proofs.accumulate.Given as goal

abbrev pub invariant-loop-n : goal.invariant-loop-n
invariant-loop-n l = record {
  within : l.n ≤ l.largest + 1;
  counted : l.taken ≡ row_means (l.n - 1) l.chain.rows.sizes.states l.chain.rows.sizes.highest;
  table : l.table ≡ table_of (chain_in l.chain) l.chain.rows.sizes.highest (l.n - 1);
  sums : l.cells ≡ part_sums (chain_in l.chain) l.chain.rows.sizes.block l.levels l.weights l.chain.rows.sizes.highest l.n l.fn.cells;
}
