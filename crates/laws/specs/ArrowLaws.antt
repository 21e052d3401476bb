-- Document 02, S-7: the order of a sum, the list of a row's arrows, that the calculation over the arrows is document 01's, and that the arrays which hold the
-- rows of a model hold its chain.
use Rattle.std.specs.Prelude.{ℕ, zero, suc, ◌+◌, ◌*◌, ◌-◌, ◌/◌, ◌≤◌, ◌<◌, max, ◌≡◌, Bool, not, ◌&&◌, ◌||◌, ltb, refl, true, false, List, [], ◌∷◌, eqb, length, get_or}
use Rattle.std.proofs.Common.{arith, ap, ap₂, sym, ◌∙◌, true≢false, eq-eqb, ne_eqb, lt-ltb, le-ltb, ltb-true}
use Rattle.std.proofs.Math.Bool.{or-true}
use Rattle.std.proofs.lemmas.Bool.{not-true, and_parts}
use Rattle.definitions.specs.Sums.{sum, pick}
use Rattle.definitions.specs.Chain.{Model, Listing, jump_rate, row_sum, uniform_rate, c, jump_millionths, chain_of, padded, target_at, rate_at, arrays, sizes_of}
use Rattle.definitions.specs.Vectors.{row_mean, next_entry, next_vectors, U}
use Rattle.definitions.specs.Level.{level}
use Rattle.definitions.specs.Moment.{weighted_mean, moment, model_level}
use Rattle.definitions.specs.Arrows.{falling, is_in, others, add_up, is_arrow, arrows, ListsArrows, is_added, added_states, arrow_sum, arrow_rate, arrow_entry, arrow_mean, next_by_arrows, UByArrows, level_by_arrows, moment_by_arrows, SameByArrows}
use Rattle.laws.specs.SumLaws.{sum_zero, sum_same, sum_none, sum_single, sum_first, sum_plus, sum_apart, largest_same}
use Rattle.laws.specs.ChainLaws.{SameChain, get_d_padded}

-- 1. The order of a sum.

-- no state is in the list twice
unfoldable pub distinct : List ℕ → Bool
distinct [] = true
distinct (x ∷ l) = not (is_in x l) && distinct l

-- what agrees at the states of a list adds up to the same
add_up_same : (l : List ℕ) (f g : ℕ → ℕ) (total : ℕ) → ((j : ℕ) → is_in j l ≡ true → f j ≡ g j) → add_up total l f ≡ add_up total l g
unfolding add_up is_in
add_up_same [] f g total same = refl
add_up_same (x ∷ l) f g total same =
    ap (λ (y : ℕ). add_up (total + y) l f) (same x (ap (λ (b : Bool). b || is_in x l) (eq-eqb x x refl)))
    ∙ add_up_same l f g (total + g x) (λ j h. same j (ap (λ (b : Bool). eqb j x || b) h ∙ or-true (eqb j x)))

-- The law of order: a sum over a list without repetition does not depend on its order, and drops what is 0. For it is the sum over all states below M, where
-- what the list leaves out is 0.
pub sum_over_list : (M : ℕ) (l : List ℕ) (f : ℕ → ℕ) (total : ℕ) → distinct l ≡ true → ((j : ℕ) → is_in j l ≡ true → j < M) → ((j : ℕ) → j < M → is_in j l ≡ false → f j ≡ 0) → add_up total l f ≡ total + sum M f
unfolding distinct add_up is_in
sum_over_list M [] f total once within rest = omega (arith, sum_none M f (λ j b. rest j b refl))
sum_over_list M (x ∷ l) f total once within rest =
    add_up_same l f apart (total + f x) (λ j h. rw (ne_eqb j x (not_first j h)) refl)
    ∙ sum_over_list M l apart (total + f x) tests.1 (λ j h. within j (ap (λ (b : Bool). eqb j x || b) h ∙ or-true (eqb j x))) left_out
    ∙ omega (arith, sum_apart M x f (within x (ap (λ (b : Bool). b || is_in x l) (eq-eqb x x refl))))
  where
    tests : (not (is_in x l) ≡ true) × (distinct l ≡ true)
    tests = and_parts (not (is_in x l)) (distinct l) once

    apart : ℕ → ℕ
    apart j = pick (eqb j x) 0 (f j)

    not_first : (j : ℕ) → is_in j l ≡ true → j ≡ x → ⊥
    not_first j h e = true≢false (sym h ∙ ap (λ (y : ℕ). is_in y l) e ∙ not-true (is_in x l) tests.0)

    left_out : (j : ℕ) → j < M → is_in j l ≡ false → apart j ≡ 0
    left_out j b h = grind arith

-- the sum, place by place of the list
pub add_up_places : (l : List ℕ) (f : ℕ → ℕ) (total : ℕ) → add_up total l f ≡ total + sum (length l) (λ k. f (get_or l k 0))
unfolding add_up
add_up_places [] f total = omega (arith, sum_zero (λ k. f (get_or [] k 0)))
add_up_places (x ∷ l) f total = add_up_places l f (total + f x) ∙ omega (arith, sum_first (length l) (λ k. f (get_or (x ∷ l) k 0)))

-- 2. The states below n that pass a test, highest first.

module _ (passes : ℕ → Bool) where
  -- from n on downwards, as code counts: the next state is listed where it passes, and left out where it does not
  pub falling_takes : (n : ℕ) → 0 < n → passes (n - 1) ≡ true → falling passes n ≡ (n - 1) ∷ falling passes (n - 1)
  unfolding falling
  falling_takes n some p = grind arith

  pub falling_leaves : (n : ℕ) → 0 < n → passes (n - 1) ≡ false → falling passes n ≡ falling passes (n - 1)
  unfolding falling
  falling_leaves n some p = grind arith

  -- a state is in the list exactly when it is below n and passes
  pub is_in_falling : (n j : ℕ) → is_in j (falling passes n) ≡ (ltb j n && passes j)
  unfolding falling is_in
  is_in_falling zero j = rw (le-ltb j 0 (omega arith)) refl
  is_in_falling (suc n) j = grind (arith, is_in_falling n j)

  pub length_falling : (n : ℕ) → length (falling passes n) ≤ n
  unfolding falling
  length_falling zero = omega arith
  length_falling (suc n) = grind (arith, length_falling n)

  -- each is below n
  falling_below : (n k : ℕ) → k < length (falling passes n) → get_or (falling passes n) k 0 < n
  unfolding falling
  falling_below zero k h = absurd (omega arith)
  falling_below (suc n) k h = grind (arith, falling_below n)

  -- and below the one before it
  pub falling_falls : (n k : ℕ) → suc k < length (falling passes n) → get_or (falling passes n) (suc k) 0 < get_or (falling passes n) k 0
  unfolding falling
  falling_falls zero k h = absurd (omega arith)
  falling_falls (suc n) k h = grind (arith, falling_falls n, falling_below n)

  distinct_falling : (n : ℕ) → distinct (falling passes n) ≡ true
  unfolding falling distinct
  distinct_falling zero = refl
  distinct_falling (suc n) = grind (arith, distinct_falling n, is_in_falling)

  -- the sum over the list is the sum over all states below n, where what does not pass is 0
  pub sum_falling : (n : ℕ) (f : ℕ → ℕ) → ((j : ℕ) → j < n → passes j ≡ false → f j ≡ 0) → add_up 0 (falling passes n) f ≡ sum n f
  sum_falling n f rest =
      sum_over_list n (falling passes n) f 0 (distinct_falling n)
      (λ j h. ltb-true j n (and_parts (ltb j n) (passes j) (sym (is_in_falling n j) ∙ h)).0)
      (λ j b h. rest j b (sym (ap (λ (t : Bool). t && passes j) (lt-ltb j n b)) ∙ sym (is_in_falling n j) ∙ h))
      ∙ omega arith

-- 3. The arrows of a row.

module _ (m : Model) (i : ℕ) where
  pub arrows_listed : ListsArrows m i (arrows m i)
  unfolding arrows
  arrows_listed = record { exactly = is_in_falling (is_arrow m i) m.states; falls = falling_falls (is_arrow m i) m.states }

  -- without the diagonal, the added states are the arrows
  pub others_falling : (n : ℕ) → others i (falling (is_added m i) n) ≡ falling (is_arrow m i) n
  unfolding falling others
  others_falling zero = refl
  others_falling (suc n) = grind (arith, others_falling n)

  -- c is 0 at a state that is not added
  entry_left_out : (j : ℕ) → is_added m i j ≡ false → c m i j ≡ 0
  unfolding c
  entry_left_out j h = grind arith

  -- a sum over the added states is the sum over all states of what is 0 where c is
  sum_added : (f : ℕ → ℕ) → ((j : ℕ) → c m i j ≡ 0 → f j ≡ 0) → add_up 0 (added_states m i) f ≡ sum m.states f
  unfolding added_states
  sum_added f rest = sum_falling (is_added m i) m.states f (λ j b h. rest j (entry_left_out j h))

  -- the sum over the arrows is the row's sum
  arrow_sum_lem : arrow_sum m i ≡ row_sum m i
  unfolding arrow_sum arrows row_sum jump_rate
  arrow_sum_lem =
      add_up_same (falling (is_arrow m i) m.states) (m.transition i) (jump_rate m i) 0 at_arrow
      ∙ sum_falling (is_arrow m i) m.states (jump_rate m i) no_arrow
    where
      at_arrow : (j : ℕ) → is_in j (falling (is_arrow m i) m.states) ≡ true → m.transition i j ≡ pick (eqb j i) 0 (m.transition i j)
      at_arrow j h =
          let arrow = (and_parts (ltb j m.states) (is_arrow m i j) (sym (is_in_falling (is_arrow m i) m.states j) ∙ h)).1 in
          let other : eqb j i ≡ false = not-true (eqb j i) (and_parts (not (eqb j i)) (ltb 0 (m.transition i j)) arrow).0 in
          rw other refl

      no_arrow : (j : ℕ) → j < m.states → is_arrow m i j ≡ false → pick (eqb j i) 0 (m.transition i j) ≡ 0
      no_arrow j b h = grind arith

-- 4. The calculation over the arrows is document 01's.

module _ (m : Model) where
  arrow_rate_lem : arrow_rate m ≡ uniform_rate m
  unfolding arrow_rate uniform_rate
  arrow_rate_lem = ap (max 1) (largest_same m.states (arrow_sum m) (row_sum m) (λ i b. arrow_sum_lem m i))

  arrow_entry_lem : (i j : ℕ) → arrow_entry m i j ≡ c m i j
  unfolding arrow_entry c
  arrow_entry_lem i j = ap₂ (λ (E s : ℕ). pick (eqb j i) (E - s) (m.transition i j)) arrow_rate_lem (arrow_sum_lem m i)

  arrow_mean_lem : (v : ℕ → ℕ) (i : ℕ) → arrow_mean m v i ≡ row_mean (chain_of m) v i
  unfolding arrow_mean row_mean
  arrow_mean_lem v i =
      ap₂ ◌/◌
      (add_up_same (added_states m i) (λ j. arrow_entry m i j * v j) (λ j. c m i j * v j) 0 (λ j h. ap (λ (x : ℕ). x * v j) (arrow_entry_lem i j))
      ∙ sum_added m i (λ j. c m i j * v j) (λ j none. ap (λ (x : ℕ). x * v j) none ∙ omega arith))
      arrow_rate_lem

  next_by_arrows_lem : (n : ℕ) (before old : ℕ → ℕ → ℕ) → before ≡ old → (r i : ℕ) → next_by_arrows m n before r i ≡ next_vectors (chain_of m) n old r i
  unfolding next_by_arrows next_vectors next_entry
  next_by_arrows_lem n before old e zero i = refl
  next_by_arrows_lem n before old e (suc r) i = grind (arith, next_by_arrows_lem n before old e r i, arrow_mean_lem)

  vectors_by_arrows : (n : ℕ) → UByArrows m n ≡ U (chain_of m) n
  unfolding UByArrows U
  vectors_by_arrows zero = refl
  vectors_by_arrows (suc n) = λ k r i. next_by_arrows_lem (suc n) (UByArrows m n) (U (chain_of m) n) (vectors_by_arrows n) r i k

  -- for every model, and so for that of every accepted file, at each of its times
  pub same_by_arrows : SameByArrows m
  unfolding level_by_arrows model_level moment_by_arrows moment jump_millionths
  same_by_arrows =
      record {
        vectors = λ n r i. ap (λ (u : ℕ → ℕ → ℕ). u r i) (vectors_by_arrows n);
        levels = ap (λ (E : ℕ). level (E * m.time) m.tolerance) arrow_rate_lem;
        moments =
            λ N r i.
            ap₂ (λ (E : ℕ) (u : ℕ → ℕ → ℕ → ℕ). weighted_mean (E * m.time) (λ n. u n r i) N) arrow_rate_lem (λ k n. vectors_by_arrows n k);
      }

-- 5. The arrays that hold the rows of a model.

-- in row i the states that the row's mean adds, each with its entry of c
pub record HoldsRows (m : Model) (a : Listing) : Type 0 where
  pub target_room : m.states * m.states ≤ length a.targets
  pub rate_room : m.states * m.states ≤ length a.rates
  pub count : (i : ℕ) → i < m.states → get_or a.counts i 0 ≡ length (added_states m i)
  pub target : (i k : ℕ) → i < m.states → k < length (added_states m i) → target_at m.states a i k ≡ get_or (added_states m i) k 0
  pub rate : (i k : ℕ) → i < m.states → k < length (added_states m i) → rate_at m.states a i k ≡ c m i (get_or (added_states m i) k 0)

module _ (m : Model) (a : Listing) (rows : HoldsRows m a) where
  -- a row has a place for each of its states, and they are states
  pub count_max : (i : ℕ) → i < m.states → get_or a.counts i 0 ≤ m.states
  unfolding added_states
  count_max i l = omega (arith, rows.count i l, length_falling (is_added m i) m.states)

  pub target_max : (i k : ℕ) → i < m.states → k < get_or a.counts i 0 → target_at m.states a i k < m.states
  unfolding added_states
  target_max i k l h =
      let inside : k < length (added_states m i) = omega (arith, h, rows.count i l) in
      rw (rows.target i k l inside) (falling_below (is_added m i) m.states k inside)

  -- what the places of row i add up to, one after another, is a sum in S-7's order: of any g of a state and its entry
  pub row_in_order : (g : ℕ → ℕ → ℕ) (i : ℕ) → i < m.states → sum (get_or a.counts i 0) (λ k. g (target_at m.states a i k) (rate_at m.states a i k)) ≡ add_up 0 (added_states m i) (λ j. g j (c m i j))
  row_in_order g i l = grind (arith, sum_same, add_up_places)

  -- c(i,j) is what the places of row i have for j
  entry_is : (i j : ℕ) → i < m.states → j < m.states → sum (get_or a.counts i 0) (λ k. pick (eqb (target_at m.states a i k) j) (rate_at m.states a i k) 0) ≡ c m i j
  entry_is i j li lj =
      row_in_order (λ t x. pick (eqb t j) x 0) i li
      ∙ sum_added m i (λ t. pick (eqb t j) (c m i t) 0) (λ t none. idle t none (eqb t j))
      ∙ sum_single m.states j (λ t. pick (eqb t j) (c m i t) 0) lj (λ t b other. rw (ne_eqb t j other) refl)
      ∙ rw (eq-eqb j j refl) refl
    where
      idle : (t : ℕ) → c m i t ≡ 0 → (b : Bool) → pick b (c m i t) 0 ≡ 0
      idle t none b = grind arith

  -- the arrays hold the model's chain
  pub arrays_same : (f : List ℕ) → f ≡ padded m.states m.reward → m.states ≤ 64 → SameChain (arrays (sizes_of m) a f) (chain_of m)
  arrays_same f e h =
      record {
        states = refl;
        rate = refl;
        largest_reward = refl;
        entry = entry_is;
        reward = λ i b. rw e (get_d_padded m.states m.reward i h b);
      }

-- 6. A sum over places is a sum over the states that they are for: what n places with targets t and rates r add of v.
pub sum_by_target : (M n : ℕ) (t r v : ℕ → ℕ) → ((k : ℕ) → k < n → t k < M) → sum M (λ j. sum n (λ k. pick (eqb (t k) j) (r k) 0) * v j) ≡ sum n (λ k. r k * v (t k))
unfolding sum
sum_by_target M zero t r v within = sum_none M _ (λ j b. omega arith)
sum_by_target M (suc n) t r v within =
    sum_same M _ (λ j. sum n (λ k. pick (eqb (t k) j) (r k) 0) * v j + pick (eqb (t n) j) (r n) 0 * v j) (λ j b. omega arith)
    ∙ sum_plus M (λ j. sum n (λ k. pick (eqb (t k) j) (r k) 0) * v j) (λ j. pick (eqb (t n) j) (r n) 0 * v j)
    ∙ ap₂ ◌+◌ (sum_by_target M n t r v (λ k b. within k (omega arith)))
    (sum_single M (t n) (λ j. pick (eqb (t n) j) (r n) 0 * v j) (within n (omega arith)) (λ j b other. rw (ne_eqb (t n) j (λ e. other (sym e))) (omega arith)) ∙ rw (eq-eqb (t n) (t n) refl) refl)
