-- Sums, maxima and tests over 0 to n − 1.
use Rattle.std.specs.Prelude.{ℕ, zero, suc, ◌+◌, ◌*◌, ◌-◌, ◌≤◌, ◌<◌, max, ◌≡◌, refl, eqb, ltb}
use Rattle.std.proofs.Common.{arith, sym, ◌∙◌, ap, ap₂, eq-eqb, ne_eqb, le-ltb, le_refl, add-zero, add-suc, add-one}
use Rattle.std.proofs.Math.Decide.{ℕ_discrete}
use Rattle.definitions.specs.Sums.{sum, largest, any_above, pick}

pub sum_zero : (f : ℕ → ℕ) → sum 0 f ≡ 0
unfolding sum
sum_zero f = refl

pub sum_suc : (n : ℕ) (f : ℕ → ℕ) → sum (suc n) f ≡ sum n f + f n
unfolding sum
sum_suc n f = refl

-- equal terms, equal sums
pub sum_same : (n : ℕ) (f g : ℕ → ℕ) → ((i : ℕ) → i < n → f i ≡ g i) → sum n f ≡ sum n g
unfolding sum
sum_same zero f g h = refl
sum_same (suc n) f g h = ap₂ ◌+◌ (sum_same n f g (λ i l. h i (omega arith))) (h n (omega arith))

-- larger terms, no smaller sum
pub sum_mono : (n : ℕ) (f g : ℕ → ℕ) → ((i : ℕ) → i < n → f i ≤ g i) → sum n f ≤ sum n g
unfolding sum
sum_mono zero f g h = omega arith
sum_mono (suc n) f g h = omega (arith, sum_mono n f g (λ i l. h i (omega arith)), h n (omega arith))

-- a factor common to all terms
pub sum_times : (n k : ℕ) (f : ℕ → ℕ) → sum n (λ i. f i * k) ≡ sum n f * k
unfolding sum
sum_times zero k f = omega arith
sum_times (suc n) k f = omega (arith, sum_times n k f)

-- terms that are sums
pub sum_plus : (n : ℕ) (f g : ℕ → ℕ) → sum n (λ i. f i + g i) ≡ sum n f + sum n g
unfolding sum
sum_plus zero f g = omega arith
sum_plus (suc n) f g = omega (arith, sum_plus n f g)

-- n equal terms
pub sum_constant : (n k : ℕ) → sum n (λ i. k) ≡ n * k
unfolding sum
sum_constant zero k = omega arith
sum_constant (suc n) k = omega (arith, sum_constant n k)

-- one term is at most the sum
pub term_le_sum : (n : ℕ) (f : ℕ → ℕ) (i : ℕ) → i < n → f i ≤ sum n f
unfolding sum
term_le_sum zero f i l = omega arith
term_le_sum (suc n) f i l = elim (ℕ_discrete i n) [ yes e ↦ omega (arith, ap f e) | no d ↦ omega (arith, term_le_sum n f i (omega arith)) ]

-- fewer terms, no larger sum
pub sum_longer : (n k : ℕ) (f : ℕ → ℕ) → sum n f ≤ sum (n + k) f
unfolding sum
sum_longer n zero f = rw add-zero (le_refl _)
sum_longer n (suc k) f = rw add-suc (omega (arith, sum_longer n k f))

pub largest_zero : (f : ℕ → ℕ) → largest 0 f ≡ 0
unfolding largest
largest_zero f = refl

pub largest_suc : (n : ℕ) (f : ℕ → ℕ) → largest (suc n) f ≡ max (largest n f) (f n)
unfolding largest
largest_suc n f = refl

-- each is at most the largest
pub le_largest : (n : ℕ) (f : ℕ → ℕ) (i : ℕ) → i < n → f i ≤ largest n f
unfolding largest
le_largest zero f i l = omega arith
le_largest (suc n) f i l = elim (ℕ_discrete i n) [ yes e ↦ omega (arith, ap f e) | no d ↦ omega (arith, le_largest n f i (omega arith)) ]

-- what no entry passes, the largest does not pass
pub largest_le : (n k : ℕ) (f : ℕ → ℕ) → ((i : ℕ) → i < n → f i ≤ k) → largest n f ≤ k
unfolding largest
largest_le zero k f h = omega arith
largest_le (suc n) k f h = omega (arith, largest_le n k f (λ i l. h i (omega arith)), h n (omega arith))

pub largest_same : (n : ℕ) (f g : ℕ → ℕ) → ((i : ℕ) → i < n → f i ≡ g i) → largest n f ≡ largest n g
unfolding largest
largest_same zero f g h = refl
largest_same (suc n) f g h = ap₂ max (largest_same n f g (λ i l. h i (omega arith))) (h n (omega arith))

-- one is above k where the largest is
pub any_largest : (k n : ℕ) (f : ℕ → ℕ) → any_above k n f ≡ ltb k (largest n f)
unfolding any_above largest
any_largest k zero f = sym (le-ltb k 0 (omega arith))
any_largest k (suc n) f = grind (arith, any_largest k n f)

-- a sum of n + k terms, the first n apart
pub sum_split : (n k : ℕ) (f : ℕ → ℕ) → sum (n + k) f ≡ sum n f + sum k (λ j. f (n + j))
unfolding sum
sum_split n zero f = rw add-zero (omega arith)
sum_split n (suc k) f = rw add-suc (omega (arith, sum_split n k f))

-- one term more, as code counts
pub sum_more : (n : ℕ) (f : ℕ → ℕ) → sum (n + 1) f ≡ sum n f + f n
sum_more n f = ap (λ (m : ℕ). sum m f) (add-one n) ∙ sum_suc n f

-- part of a sum
pub sum_part : (n k : ℕ) (f : ℕ → ℕ) → n ≤ k → sum n f ≤ sum k f
sum_part n k f h = omega (arith, sum_longer n (k - n) f, ap (λ (m : ℕ). sum m f) whole)
  where
    whole : n + (k - n) ≡ k
    whole = omega arith

-- a sum of zeros; and where one entry alone is not 0, the sum is that entry
pub sum_none : (n : ℕ) (f : ℕ → ℕ) → ((j : ℕ) → j < n → f j ≡ 0) → sum n f ≡ 0
unfolding sum
sum_none zero f none = refl
sum_none (suc n) f none = omega (arith, sum_none n f (λ j b. none j (omega arith)), none n (omega arith))

pub sum_single : (n i : ℕ) (f : ℕ → ℕ) → i < n → ((j : ℕ) → j < n → (j ≡ i → ⊥) → f j ≡ 0) → sum n f ≡ f i
unfolding sum
sum_single zero i f h others = absurd (omega arith)
sum_single (suc n) i f h others =
    elim (ℕ_discrete i n) [
      | yes e ↦ rw e (omega (arith, sum_none n f (λ j b. others j (omega arith) (λ same. omega (arith, same, e, b)))))
      | no ne ↦ omega (arith, sum_single n i f (omega arith) (λ j b other. others j (omega arith) other), others n (omega arith) (λ same. ne (sym same)))
    ]

-- what changes at one place alone changes the sum by that much
pub sum_changed : (n i d : ℕ) (g : ℕ → ℕ) → i < n → sum n (λ j. pick (eqb j i) d (g j)) ≡ sum n (λ j. pick (eqb j i) 0 (g j)) + d
unfolding sum
sum_changed zero i d g l = absurd (omega arith)
sum_changed (suc n) i d g l =
    elim (ℕ_discrete n i) [
      | yes e ↦
          rw (eq-eqb n i e)
          (omega (arith, sum_same n (λ j. pick (eqb j i) d (g j)) (λ j. pick (eqb j i) 0 (g j)) (λ j b. rw (ne_eqb j i (omega arith)))))
      | no ne ↦ rw (ne_eqb n i ne) (omega (arith, sum_changed n i d g (omega arith)))
    ]

-- one term apart
pub sum_apart : (n i : ℕ) (f : ℕ → ℕ) → i < n → sum n f ≡ f i + sum n (λ j. pick (eqb j i) 0 (f j))
sum_apart n i f l =
    sum_same n f (λ j. pick (eqb j i) (f i) (f j)) (λ j b. elim (ℕ_discrete j i) [ yes e ↦ rw (eq-eqb j i e) (ap f e) | no ne ↦ rw (ne_eqb j i ne) refl ])
    ∙ sum_changed n i (f i) f l
    ∙ omega arith

-- the first term apart
pub sum_first : (n : ℕ) (f : ℕ → ℕ) → sum (suc n) f ≡ f 0 + sum n (λ k. f (suc k))
unfolding sum
sum_first zero f = omega arith
sum_first (suc n) f = omega (arith, sum_first n f)
