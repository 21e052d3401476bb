-- Sums, maxima and tests over 0 to n − 1, and a list whose first entries are given by a function.
use Rattle.std.specs.Prelude.{ℕ, zero, suc, ◌+◌, ◌*◌, ◌/◌, ◌%◌, max, List, [], ◌∷◌, ◌++◌, Bool, true, false, ◌||◌, drop, ltb}
use Rattle.std.proofs.lemmas.List.Edits.{sets}

-- f 0 + … + f (n − 1)
unfoldable pub sum : ℕ → (ℕ → ℕ) → ℕ
sum zero f = 0
sum (suc n) f = sum n f + f n

-- the largest of f 0, …, f (n − 1), and 0 where n is 0
unfoldable pub largest : ℕ → (ℕ → ℕ) → ℕ
largest zero f = 0
largest (suc n) f = max (largest n f) (f n)

-- whether one of f 0, …, f (n − 1) is above k
unfoldable pub any_above : ℕ → ℕ → (ℕ → ℕ) → Bool
any_above k zero f = false
any_above k (suc n) f = any_above k n f || ltb k (f n)

-- the list f 0, …, f (n − 1)
unfoldable pub firsts : {A : Type 0} → ℕ → (ℕ → A) → List A
firsts zero f = []
firsts (suc n) f = firsts n f ++ (f n ∷ [])

-- the list l with its first n entries replaced by f 0, …, f (n − 1); the rest as in l
unfoldable pub over : {A : Type 0} → ℕ → (ℕ → A) → List A → List A
over n f l = firsts n f ++ drop n l

-- the list l with its first count blocks, of size entries each, replaced: entry c of block k is f k c; the rest as in l
unfoldable pub blocks : {A : Type 0} → ℕ → ℕ → (ℕ → ℕ → A) → List A → List A
blocks size count f l = over (count * size) (λ p. f (p / size) (p % size)) l

-- the list l with n rows stored in it, row i from place i × size on; the other places as in l
unfoldable pub rows_stored : (ℕ → List ℕ) → ℕ → ℕ → List ℕ → List ℕ
rows_stored row size zero l = l
rows_stored row size (suc i) l = sets (rows_stored row size i l) (i * size) (row i)

-- a where the test holds, b where it does not
abbrev pub pick : {A : Type 0} → Bool → A → A → A
pick true a b = a
pick false a b = b
