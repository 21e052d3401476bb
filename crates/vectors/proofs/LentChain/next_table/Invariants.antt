use Rattle.std.proofs.Common.{◌≡◌, ◌≤◌, ◌+◌, ◌-◌, ◌*◌}
use Rattle.definitions.specs.Sums.{over}
use Rattle.definitions.specs.Vectors.{vector}
use Rattle.vectors.specs.Lent.{chain_in}
use Rattle.vectors.specs.Table.{table_of}
use Rattle.vectors.proofs.LentChain.next_table.Given as goal

abbrev pub invariant-loop-r : goal.invariant-loop-r
invariant-loop-r l = record {
  within : l.r ≤ l.self.rows.sizes.highest + 1;
  counted : l.taken + l.self.rows.sizes.states ≡ l.initial.taken + l.self.rows.sizes.states * l.r;
  filled : l.table ≡ over l.r (vector (chain_in l.self) l.n) (table_of (chain_in l.self) l.self.rows.sizes.highest (l.n - 1));
}
