-- What the arrays that are lent hold. Assumes nothing: these are definitions.
use Rattle.vectors.specs.declared.Rows.{Rows}
use Rattle.vectors.specs.declared.LentChain.{LentChain}
use Rattle.definitions.specs.Chain.{Chain, Listing, arrays}
use Rattle.vectors.specs.Arrows.{arrow_listing}

-- the rows of a chain
abbrev pub listing_of : Rows → Listing
listing_of rows = arrow_listing rows.arrows.now rows.counts.now

-- the chain of the rows and the reward rates
abbrev pub chain_in : LentChain → Chain
chain_in chain = arrays chain.rows.sizes (listing_of chain.rows) chain.rewards.now
