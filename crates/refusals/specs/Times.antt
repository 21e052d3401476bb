-- Whether a list of times starts with 0.
use Rattle.std.specs.Prelude.{ℕ, ◌<◌, ◌≡◌, refl, false, List, [], ◌∷◌, eqb, get_or, length}
use Rattle.std.proofs.Common.{arith}
use Rattle.definitions.specs.Rules.{starts_at_zero}

-- a list without a time does not, and one with a first time does where that is 0
pub without_a_time : (t : List ℕ) → length t ≡ 0 → starts_at_zero t ≡ false
without_a_time [] h = refl
without_a_time (first ∷ later) h = absurd (omega arith)

pub with_a_time : (t : List ℕ) → 0 < length t → starts_at_zero t ≡ eqb (get_or t 0 0) 0
with_a_time [] h = absurd (omega arith)
with_a_time (first ∷ later) h = refl
