-- Arrays for 64 states that are filled at the states, and their largest entries.
use Rattle.std.specs.Prelude.{ℕ, zero, suc, ◌≤◌, max, ◌≡◌, refl, List, [], ◌∷◌, ◌++◌, length, take, drop}
use Rattle.std.proofs.Common.{arith, ◌∙◌, ap}
use Rattle.std.proofs.Math.ListN.{replicate, drop_of_length-le}
use Rattle.std.proofs.lemmas.List.{append-nil, get_or-take, length-replicate, length-take-le}
use Rattle.definitions.specs.Sums.{largest, firsts, over}
use Rattle.definitions.specs.Chain.{padded}
use Rattle.laws.specs.SumLaws.{largest_same}
use Rattle.laws.specs.ArrayLaws.{zeros, length_zeros, over_padded, entry_of}

-- the first M of 64 zeros
abbrev pub fresh : ℕ → List ℕ
fresh M = take M (replicate 64 0)

pub length_fresh : (M : ℕ) → M ≤ 64 → length (fresh M) ≡ M
length_fresh M h = length-take-le M (replicate 64 0) (omega (arith, length-replicate {A = ℕ} 64 0))

front_over : (n : ℕ) (f : ℕ → ℕ) (t l : List ℕ) → n ≤ length l → t ≡ over n f (take n l) → t ++ drop n l ≡ over n f l
unfolding over
front_over n f t l room e =
    ap (λ (r : List ℕ). r ++ drop n l) (e ∙ ap (λ (r : List ℕ). firsts n f ++ r) (drop_of_length-le (take n l) (omega (arith, length-take-le n l room))) ∙ append-nil (firsts n f))

-- filled, and in their place again, they are a vector
pub fresh_padded : (M k : ℕ) (f : ℕ → ℕ) (t : List ℕ) → M ≤ 64 → t ≡ over k f (fresh M) → k ≡ M → t ++ drop M (replicate 64 0) ≡ padded M f
unfolding zeros
fresh_padded M k f t h e all = front_over M f t (zeros 64) (omega (arith, length_zeros 64)) (rw all at e) ∙ over_padded M f h

-- the largest entry, by the first element
largest_first : (n : ℕ) (f : ℕ → ℕ) → largest (suc n) f ≡ max (f 0) (largest n (λ k. f (suc k)))
unfolding largest
largest_first zero f = omega arith
largest_first (suc n) f = omega (arith, largest_first n f)

abbrev pub largest_entry : List ℕ → ℕ
largest_entry l = largest (length l) (entry_of l)

pub largest_of_none : largest_entry [] ≡ 0
unfolding largest
largest_of_none = refl

pub largest_of_more : (x : ℕ) (l : List ℕ) → largest_entry (x ∷ l) ≡ max x (largest_entry l)
largest_of_more x l = largest_first (length l) (entry_of (x ∷ l))

-- and their largest entry
pub largest_taken : (n : ℕ) (l : List ℕ) → n ≤ length l → largest_entry (take n l) ≡ largest n (entry_of l)
largest_taken n l h =
    let size : length (take n l) ≡ n = length-take-le n l h in
    rw size (largest_same n (entry_of (take n l)) (entry_of l) (λ i b. get_or-take n l i 0 b))
