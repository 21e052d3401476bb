-- The stays of a ring, as one goes to the next place and as the oldest is left out.
use Rattle.std.specs.Prelude.{ℕ, zero, suc, ◌+◌, ◌-◌, ◌≤◌, ◌<◌, List, ◌∷◌, ◌≡◌, refl, length, get_or, set, take}
use Rattle.std.proofs.Common.{arith, ap, ap₂, ◌∙◌, add-one, get_or-set_same, get_or-set_other, eq-eqb, ne_eqb, lt-ltb, le-ltb}
use Rattle.std.proofs.Math.Decide.{ℕ_discrete, dec_lt}
use Rattle.definitions.specs.Stays.{Stay}
use Rattle.laws.specs.StayLaws.{no_stay}
use Rattle.stays.specs.declared.Kept.{Kept}
use Rattle.stays.specs.Ring.{place_of, following, stay_in, nothing, ring_from}

-- the ring's places
module _ (W next : ℕ) (h : next < W) where
  pub place_oldest : place_of W next (W - 1) ≡ next
  unfolding place_of
  place_oldest = rw (le-ltb (W - 1) next (omega arith)) (omega arith)

  pub place_other : (k : ℕ) → k < W - 1 → place_of W next k ≡ next → ⊥
  unfolding place_of
  place_other k b = elim (dec_lt k next) [ yes l ↦ rw (lt-ltb k next l) (λ e. omega arith) | no p ↦ rw (le-ltb k next (omega (arith, p))) (λ e. omega arith) ]

  pub following_max : following W next < W
  following_max = elim (ℕ_discrete (next + 1) W) [ yes e ↦ rw (eq-eqb _ _ e) (omega arith) | no ne ↦ rw (ne_eqb _ _ ne) (omega (arith, ne)) ]

  pub place_newest : place_of W (following W next) 0 ≡ next
  unfolding place_of
  place_newest =
      elim (ℕ_discrete (next + 1) W) [
        | yes e ↦ rw (eq-eqb _ _ e) (omega (arith, e))
        | no ne ↦ rw (ne_eqb _ _ ne) (rw (lt-ltb 0 (next + 1) (omega arith)) (omega arith))
      ]

  pub place_older : (k : ℕ) → k < W - 1 → place_of W (following W next) (suc k) ≡ place_of W next k
  unfolding place_of
  place_older k b =
      elim (ℕ_discrete (next + 1) W) [
        | yes e ↦ rw (eq-eqb _ _ e) (rw (le-ltb (suc k) 0 (omega arith)) (rw (lt-ltb k next (omega arith)) (omega arith)))
        | no ne ↦ rw (ne_eqb _ _ ne)
            (elim (dec_lt k next) [
              | yes l ↦ rw (lt-ltb k next l) (rw (lt-ltb (suc k) (next + 1) (omega arith)) (omega arith))
              | no p ↦ rw (le-ltb k next (omega (arith, p))) (rw (le-ltb (suc k) (next + 1) (omega (arith, p))) (omega arith))
            ])
      ]

  -- what stays in the ring where a stay goes to the next place
  ring_kept : (s : Kept) (a : List Kept) (k n : ℕ) → k + n ≤ W - 1 → ring_from W (following W next) (set a next s) (suc k) n ≡ ring_from W next a k n
  unfolding ring_from
  ring_kept s a k zero b = refl
  ring_kept s a k (suc n) b =
      ap₂ ◌∷◌
      (ap stay_in (ap (λ (p : ℕ). get_or (set a next s) p nothing) (place_older k (omega arith)) ∙ get_or-set_other a next (place_of W next k) s nothing (place_other k (omega arith))))
      (ring_kept s a (suc k) n (omega arith))

  -- and with that stay
  pub ring_entered : (s : Kept) (a : List Kept) (n : ℕ) → W ≤ length a → n < W → ring_from W (following W next) (set a next s) 0 (n + 1) ≡ stay_in s ∷ ring_from W next a 0 n
  unfolding ring_from
  ring_entered s a n room fits =
      ap (ring_from W (following W next) (set a next s) 0) (add-one n)
      ∙ ap₂ ◌∷◌
      (ap stay_in (ap (λ (p : ℕ). get_or (set a next s) p nothing) place_newest ∙ get_or-set_same a next s nothing (omega arith)))
      (ring_kept s a 0 n (omega arith))

module _ (W next : ℕ) (a : List Kept) where
  pub length_ring : (k n : ℕ) → length (ring_from W next a k n) ≡ n
  unfolding ring_from
  length_ring k zero = refl
  length_ring k (suc n) = ap suc (length_ring (suc k) n)

  -- the newest of them
  pub ring_newest : (k n m : ℕ) → m ≤ n → ring_from W next a k m ≡ take m (ring_from W next a k n)
  unfolding ring_from
  ring_newest k n zero h = refl
  ring_newest k zero (suc m) h = absurd (omega arith)
  ring_newest k (suc n) (suc m) h = ap (λ (l : List Stay). stay_in (get_or a (place_of W next k) nothing) ∷ l) (ring_newest (suc k) n m (omega arith))

  -- one of them
  pub ring_at : (k n j : ℕ) → j < n → get_or (ring_from W next a k n) j no_stay ≡ stay_in (get_or a (place_of W next (k + j)) nothing)
  unfolding ring_from
  ring_at k zero j h = absurd (omega arith)
  ring_at k (suc n) zero h = ap (λ (p : ℕ). stay_in (get_or a (place_of W next p) nothing)) (omega arith)
  ring_at k (suc n) (suc j) h = ring_at (suc k) n j (omega arith) ∙ ap (λ (p : ℕ). stay_in (get_or a (place_of W next p) nothing)) (omega arith)
