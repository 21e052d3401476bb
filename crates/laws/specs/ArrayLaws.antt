-- Arrays that start as zeros.
use Rattle.std.specs.Prelude.{List, ◌≡◌, refl, ℕ, ◌≤◌, ◌<◌, ltb, length, get_or, replicate}
use Rattle.std.proofs.Common.{sym, ◌∙◌, arith, lt-ltb, le-ltb}
use Rattle.std.proofs.lemmas.List.{length-replicate, get_or-replicate}
use Rattle.std.proofs.Math.ListN.{get_or-eq_default}
use Rattle.definitions.specs.Sums.{firsts, over, pick}
use Rattle.definitions.specs.Chain.{padded}
use Rattle.laws.specs.ListLaws.{over_same, over_whole_lem}

-- n zeros
unfoldable pub zeros : ℕ → List ℕ
zeros n = replicate n 0

pub length_zeros : (n : ℕ) → length (zeros n) ≡ n
unfolding zeros
length_zeros n = length-replicate n 0

pub zero_at : (n i : ℕ) → get_or (zeros n) i 0 ≡ 0
unfolding zeros
zero_at n i = grind (arith, get_or-replicate, get_or-eq_default, length_zeros)

-- the entries of a list
abbrev pub entry_of : List ℕ → ℕ → ℕ
entry_of l i = get_or l i 0

-- filled up to n with nothing but 0 to follow, the whole array is filled
over_zeros : (n size : ℕ) (f : ℕ → ℕ) → n ≤ size → ((k : ℕ) → n ≤ k → k < size → f k ≡ 0) → over n f (zeros size) ≡ firsts size f
over_zeros n size f l idle = over_whole_lem 0 n size f (zeros size) l (length_zeros size) (λ k a b. idle k a b ∙ sym (zero_at size k))

-- 64 zeros filled at the M states are the padded vector
pub over_padded : (M : ℕ) (v : ℕ → ℕ) → M ≤ 64 → over M v (zeros 64) ≡ padded M v
unfolding padded
over_padded M v l =
    over_same M v (λ i. pick (ltb i M) (v i) 0) (zeros 64) (λ i b. rw (lt-ltb i M b) refl)
    ∙ over_zeros M 64 (λ i. pick (ltb i M) (v i) 0) l (λ k past b. rw (le-ltb k M past) refl)
