-- An array whose first entries are filled: with one number, or one after the other. Assumes nothing.
use Rattle.std.proofs.Common.{◌≡◌, ◌∙◌, sym, ap, List, ℕ, ◌≤◌, ◌<◌, ◌++◌, get_or, length, take, drop, arith}
use Rattle.std.proofs.Math.ListN.{replicate, drop_of_length-le}
use Rattle.std.proofs.lemmas.List.{append-nil, get_or-replicate, length-replicate, length-take-le}
use Rattle.definitions.specs.Sums.{firsts, over}
use Rattle.definitions.specs.Chain.{padded}
use Rattle.laws.specs.ListLaws.{over_none, over_whole_lem}
use Rattle.laws.specs.ArrayLaws.{zeros, length_zeros, over_padded}

-- a list is what its entries make
from_entries : (n : ℕ) (f : ℕ → ℕ) (l : List ℕ) → length l ≡ n → ((i : ℕ) → i < n → get_or l i 0 ≡ f i) → l ≡ firsts n f
from_entries n f l long each = sym (over_none f l) ∙ over_whole_lem 0 0 n f l (omega arith) long (λ k a b. sym (each k b))

pub filled_over : (n v : ℕ) (t l : List ℕ) → n ≤ length l → t ≡ replicate (length (take n l)) v → t ++ drop n l ≡ over n (λ k. v) l
unfolding over
filled_over n v t l room e =
    let same : t ≡ replicate n v = e ∙ ap (λ (k : ℕ). replicate k v) (length-take-le n l room) in
    ap (λ (s : List ℕ). s ++ drop n l) (same ∙ from_entries n (λ k. v) (replicate n v) (length-replicate n v) (λ i b. get_or-replicate n i v 0 b))

pub front_over : (n : ℕ) (f : ℕ → ℕ) (t l : List ℕ) → n ≤ length l → t ≡ over n f (take n l) → t ++ drop n l ≡ over n f l
unfolding over
front_over n f t l room e =
    ap (λ (r : List ℕ). r ++ drop n l) (e ∙ ap (λ (r : List ℕ). firsts n f ++ r) (drop_of_length-le (take n l) (omega (arith, length-take-le n l room))) ∙ append-nil (firsts n f))

-- the first M of 64 zeros
abbrev pub fresh : ℕ → List ℕ
fresh M = take M (replicate 64 0)

pub length_fresh : (M : ℕ) → M ≤ 64 → length (fresh M) ≡ M
length_fresh M h = length-take-le M (replicate 64 0) (omega (arith, length-replicate {A = ℕ} 64 0))

-- filled, and in their place again, they are a vector
pub fresh_padded : (M k : ℕ) (f : ℕ → ℕ) (t : List ℕ) → M ≤ 64 → t ≡ over k f (fresh M) → k ≡ M → t ++ drop M (replicate 64 0) ≡ padded M f
unfolding zeros
fresh_padded M k f t h e all = front_over M f t (zeros 64) (omega (arith, length_zeros 64)) (rw all at e) ∙ over_padded M f h
