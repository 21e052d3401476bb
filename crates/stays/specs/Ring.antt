-- The ring in which a record keeps its stays.
use Rattle.std.specs.Prelude.{ℕ, zero, suc, ◌+◌, ◌-◌, List, [], ◌∷◌, get_or, ltb, eqb}
use Rattle.definitions.specs.Sums.{pick}
use Rattle.definitions.specs.Stays.{Stay, stay_of}
use Rattle.stays.specs.declared.Kept.{Kept}

-- the place, in a ring of W, of the stay that came k before the newest, where the next one goes to the place next
unfoldable pub place_of : ℕ → ℕ → ℕ → ℕ
place_of W next k = pick (ltb k next) (next - 1 - k) (next + W - 1 - k)

abbrev pub following : ℕ → ℕ → ℕ
following W at = pick (eqb (at + 1) W) 0 (at + 1)

-- what a place holds
abbrev pub stay_in : Kept → Stay
stay_in k = stay_of k.from k.to k.span

abbrev pub nothing : Kept
nothing = record { from = 0; to = 0; span = 0 }

-- the stays that came k, k + 1, …, k + n − 1 before the newest
unfoldable pub ring_from : ℕ → ℕ → List Kept → ℕ → ℕ → List Stay
ring_from W next places k zero = []
ring_from W next places k (suc n) = stay_in (get_or places (place_of W next k) nothing) ∷ ring_from W next places (suc k) n
