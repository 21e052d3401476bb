use Rattle.std.proofs.Common.{◌≡◌, ◌+◌}
use Rattle.definitions.specs.Sums.{over}
use Rattle.definitions.specs.Vectors.{next_entry}
use Rattle.laws.specs.ArrayLaws.{entry_of}
use Rattle.vectors.specs.Lent.{chain_in}
use Rattle.vectors.proofs.LentChain.step.Given as goal

abbrev pub invariant-loop-i : goal.invariant-loop-i
invariant-loop-i l = record {
  counted : l.taken ≡ l.initial.taken + l.i;
  filled : l.entry-items ≡ over l.i (next_entry (chain_in l.self) l.n l.r (entry_of l.before) (entry_of l.same)) l.initial.entry-items;
}
