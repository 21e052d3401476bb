-- What a row mean adds, and what the divisions of a step drop.
use Rattle.std.specs.Prelude.{List, ◌≡◌, ℕ, ◌*◌, ◌%◌, ◌<◌, get_or}
use Rattle.definitions.specs.declared.Division.{Division}
use Rattle.definitions.specs.declared.Sizes.{Sizes}
use Rattle.definitions.specs.Division.{Divides, division}
use Rattle.definitions.specs.Chain.{Model, Chain, Listing, c}
use Rattle.definitions.specs.Arrows.{add_up, added_states}
use Rattle.definitions.specs.Remainders.{rests_in, StepDivides}
use Rattle.laws.specs.ArrowLaws.{HoldsRows}
use Rattle.laws.specs.ArrayLaws.{entry_of}

-- "add only the states with a rate above 0 and the diagonal, from the highest j to the lowest" (document 02, S-7): of every model whose rows the places hold, d is
-- that sum for row i, by E
abbrev pub InOrder : Sizes → Listing → List ℕ → ℕ → Division → Type 0
InOrder z a v i d = (m : Model) → HoldsRows m a → m.states ≡ z.states → d ≡ division (add_up 0 (added_states m i) (λ j. c m i j * entry_of v j)) z.rate

-- each entry of a step is the quotient of its division; what is dropped are the remainders of V by E, of W by F, and of U by n + r
abbrev pub StepDrops : Chain → ℕ → ℕ → List ℕ → List ℕ → List ℕ → Type 0
StepDrops ch n r before same u =
    (i : ℕ) → i < ch.states → StepDivides ch n r (entry_of before) (entry_of same) i (get_or u i 0) (rests_in ch n r (entry_of before) (entry_of same) i)

-- each entry of U(0,r) is the quotient of its W; the remainder of f × U(0,r−1) by F is dropped
abbrev pub SharesDrop : Sizes → List ℕ → List ℕ → List ℕ → Type 0
SharesDrop z f same u = (i : ℕ) → i < z.states → Divides (get_or f i 0 * get_or same i 0) z.largest (get_or u i 0) (get_or f i 0 * get_or same i 0 % z.largest)
