use Rattle.std.proofs.Common.{◌≡◌, get_or}
use Rattle.definitions.specs.Sums.{over}
use Rattle.definitions.specs.Chain.{Listing, arrays}
use Rattle.definitions.specs.Vectors.{reward_share}
use Rattle.vectors.proofs.shares.Given as goal

abbrev pub invariant-loop-i : goal.invariant-loop-i
invariant-loop-i l = (a : Listing) → l.entry-items ≡ over l.i (λ k. reward_share (arrays l.sizes a l.rewards) (get_or l.same k 0) k) l.initial.entry-items
