use Rattle.std.proofs.Common.{◌≡◌}
use Rattle.definitions.specs.Sums.{sum}
use Rattle.vectors.specs.Ready.{product_at}
use Rattle.vectors.specs.Lent.{listing_of}
use Rattle.vectors.proofs.Rows.row_mean.Given as goal

abbrev pub invariant-loop-arrow : goal.invariant-loop-arrow
invariant-loop-arrow l = l.total ≡ sum l.arrow-index (product_at l.self.sizes.states (listing_of l.self) l.v l.i)
