use Rattle.std.proofs.Common.{◌≡◌, ◌+◌, ◌-◌, ◌≤◌}
use Rattle.vectors.specs.Lent.{chain_in}
use Rattle.vectors.specs.Table.{table_of}
use Rattle.vectors.proofs.LentChain.table_at.Given as goal

abbrev pub invariant-loop-k : goal.invariant-loop-k
invariant-loop-k l = record {
  within : l.k ≤ l.n + 1;
  filled : l.table ≡ table_of (chain_in l.self) l.self.rows.sizes.highest (l.k - 1);
}
