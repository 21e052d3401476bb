-- Two files of the same length and with the same first five bytes, up to M and R: rows 1 to 6 read nothing else.
use Rattle.std.specs.Prelude.{ℕ, ◌+◌, ◌≤◌, ◌<◌, ◌≡◌, List, length, get_or, refl}
use Rattle.std.proofs.Common.{arith}
use Rattle.std.proofs.lemmas.List.Edits.{sets}
use Rattle.std.proofs.Math.Seq.{length-sets}
use Rattle.definitions.specs.File.{length_field, state_count, highest_moment, distributions}
use Rattle.definitions.specs.Rules.{framing}
use Rattle.laws.specs.ByteLaws.{big_same, sets_before}

pub record SameFrame (s t : List ℕ) : Type 0 where
  pub size : length t ≡ length s
  pub first : (k : ℕ) → k < 5 → get_or t k 0 ≡ get_or s k 0

module _ (s t : List ℕ) (e : SameFrame s t) where
  pub states_same : state_count t ≡ state_count s
  states_same = e.first 3 (omega arith)

  pub highest_same : highest_moment t ≡ highest_moment s
  highest_same = e.first 4 (omega arith)

  pub distributions_same : distributions t ≡ distributions s
  unfolding distributions
  distributions_same = rw (e.first 2 (omega arith)) refl

  counted_same : length_field t ≡ length_field s
  counted_same = big_same 2 0 t s (λ i b. e.first (0 + i) (omega arith))

  pub framing_same : (low high : ℕ) → framing low high t ≡ framing low high s
  unfolding framing
  framing_same low high = rw (e.size, states_same, highest_same, distributions_same, counted_same, e.first 2 (omega arith)) refl

-- bytes that are stored past the fifth leave it
pub frame_stored : (s : List ℕ) (at : ℕ) (bytes : List ℕ) → 5 ≤ at → SameFrame s (sets s at bytes)
frame_stored s at bytes past = record { size = length-sets s at bytes; first = λ k h. sets_before s at bytes k (omega arith) }
