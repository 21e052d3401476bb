-- Row 17 over the weights that are looked at. Assumes nothing.
use Rattle.std.proofs.Common.{◌≡◌, ℕ, ◌+◌, ◌-◌, ◌<◌, ◌≤◌, Bool, true, false, List, length, get_or, ltb, sym, ◌∙◌, ap, arith}
use Rattle.std.specs.Bool.{MatchBool}
use Rattle.std.specs.List.{between, HoldsAt, AllWithin}
use Rattle.std.proofs.lemmas.List.Edits.{length-between, get_or-between}
use Rattle.definitions.specs.Sums.{any_above, pick}
use Rattle.definitions.specs.Chain.{padded}
use Rattle.laws.specs.ChainLaws.{get_d_padded}
use Rattle.laws.specs.ListLaws.{length_firsts}
use Rattle.laws.specs.RowLaws.{weight_found, none_found}

-- the weights of n states but the first
abbrev pub others : ℕ → (ℕ → ℕ) → List ℕ
others n a = between 1 n (padded n a)

module _ (n : ℕ) (a : ℕ → ℕ) (h : n ≤ 64) where
  count : length (others n a) ≡ n - 1
  unfolding padded
  count = length-between (padded n a) 1 n (omega (arith, length_firsts 64 (λ i. pick (ltb i n) (a i) 0)))

  other : (k : ℕ) → k + 1 < n → get_or (others n a) k 0 ≡ a (k + 1)
  other k l =
      let place : 1 + k ≡ k + 1 = omega arith in
      get_or-between (padded n a) 1 n k 0 (omega arith) ∙ ap (λ (i : ℕ). get_or (padded n a) i 0) place ∙ get_d_padded n a (k + 1) h l

  -- whether one of them is above 0
  pub some_other : (r : Bool) → MatchBool r ((k : ℕ) × (k < length (others n a)) × HoldsAt (λ w. 0 < w) (others n a) k) (AllWithin (λ w. w ≤ 0) (others n a) 0 (length (others n a))) →
      r ≡ any_above 0 (n - 1) (λ k. a (k + 1))
  some_other true (k, inside, above) = sym (weight_found n a (k + 1) (omega arith) (omega (arith, count)) (omega (arith, above 0, other k (omega (arith, count)))))
  some_other false none =
      sym (none_found n a (λ i low high.
      let place : i - 1 + 1 ≡ i = omega arith in
      omega (arith, none (i - 1) 0 (omega arith) (omega (arith, count)), other (i - 1) (omega arith), ap a place)))
