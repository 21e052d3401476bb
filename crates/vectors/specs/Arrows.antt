-- The places of the rows, read as the lists of their states and of their entries of c. Assumes nothing: these are definitions.
use Rattle.std.specs.Prelude.{List, ℕ, map}
use Rattle.definitions.specs.Chain.{Listing, listed}
use Rattle.vectors.specs.declared.Arrow.{Arrow}

abbrev pub targets_of : List Arrow → List ℕ
targets_of arrows = map (λ (a : Arrow). a.target) arrows

abbrev pub rates_of : List Arrow → List ℕ
rates_of arrows = map (λ (a : Arrow). a.rate) arrows

abbrev pub arrow_listing : List Arrow → List ℕ → Listing
arrow_listing arrows counts = listed (targets_of arrows) (rates_of arrows) counts
