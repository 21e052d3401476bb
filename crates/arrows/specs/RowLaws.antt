-- A row is listed state by state, and with all rows stored the arrays hold the model's rows. Assumes nothing.
use Rattle.std.specs.Prelude.{ℕ, suc, ◌+◌, ◌*◌, ◌-◌, ◌≤◌, ◌<◌, ◌≡◌, refl, Bool, true, false, ◌||◌, List, map, eqb, ltb, length, get_or, set, drop}
use Rattle.std.proofs.Common.{mul-le-mul_right, ◌∙◌, ap, length-set, length-drop, length-take-le, get_or-take, get_or-drop, ext_get_or, arith}
use Rattle.std.proofs.lemmas.List.{length-map, get_or-map}
use Rattle.std.proofs.lemmas.List.Edits.{sets}
use Rattle.definitions.specs.Sums.{over, rows_stored, pick}
use Rattle.definitions.specs.Chain.{Model, Listing, row_sum, uniform_rate, c, listed}
use Rattle.definitions.specs.Arrows.{falling, is_added, added_states, states_in, ListsRows}
use Rattle.laws.specs.ListLaws.{get_d_over}
use Rattle.laws.specs.StoredLaws.{length_stored, get_d_stored}
use Rattle.laws.specs.ArrowLaws.{falling_takes, falling_leaves, length_falling, HoldsRows}
use Rattle.laws.proofs.ArrowLaws.{row_listed}
use Rattle.arrows.specs.Rows.{DownTo}

-- what is read of the file's row is the entry of c, and is_added tells whether the row's mean adds its state
pub entry_of_row : (m : Model) (i j diagonal : ℕ) → diagonal ≡ uniform_rate m - row_sum m i → pick (eqb j i) diagonal (m.transition i j) ≡ c m i j
unfolding c
entry_of_row m i j diagonal e = rw e refl

pub added_by : (m : Model) (i j diagonal : ℕ) → (eqb j i || ltb 0 (pick (eqb j i) diagonal (m.transition i j))) ≡ is_added m i j
added_by m i j diagonal = by (eqb j i)
  where
    by : (b : Bool) → (b || ltb 0 (pick b diagonal (m.transition i j))) ≡ (b || ltb 0 (m.transition i j))
    by true = refl
    by false = refl

-- a row is listed from its highest state down: none at first, then one state after another is listed or left out
module _ (m : Model) (i first : ℕ) (targets₀ rates₀ : List ℕ) where
  pub none_listed : (j k : ℕ) → j ≡ m.states → k ≡ 0 → DownTo m i first j k targets₀ rates₀ targets₀ rates₀
  unfolding added_states
  none_listed j k all none =
      let here : first + k ≡ first = omega arith in
      record {
        count = rw (all, none) (omega arith);
        in_targets = rw (here, all) refl;
        in_rates = rw (here, all) refl;
        same_targets = refl;
        same_rates = refl;
      }

  -- down to state 0 it is the whole row, from where it has its places
  pub all_listed : (k : ℕ) (targets rates : List ℕ) → DownTo m i first 0 k targets₀ rates₀ targets rates → (place : ℕ) → first ≡ place → (k ≡ length (added_states m i)) × (targets ≡ sets targets₀ place (added_states m i)) × (rates ≡ sets rates₀ place (map (c m i) (added_states m i)))
  unfolding falling
  all_listed k targets rates row place here = rw (← here) (omega (arith, row.count), row.in_targets, row.in_rates)

  module _ (j k : ℕ) (targets rates : List ℕ) (before : DownTo m i first j k targets₀ rates₀ targets rates) (some : 0 < j) where
    pub left_out : is_added m i (j - 1) ≡ false → DownTo m i first (j - 1) k targets₀ rates₀ targets rates
    left_out skipped =
        let same = falling_leaves (is_added m i) j some skipped in
        record {
          count = rw same at before.count;
          in_targets = rw same at before.in_targets;
          in_rates = rw same at before.in_rates;
          same_targets = before.same_targets;
          same_rates = before.same_rates;
        }

    module _ (taken : is_added m i (j - 1) ≡ true) where
      -- there is a place for it
      pub place_left : k < length (added_states m i)
      place_left = omega (arith, before.count, ap length (falling_takes (is_added m i) j some taken))

      pub listed_next : (x : ℕ) → x ≡ c m i (j - 1) → DownTo m i first (j - 1) (k + 1) targets₀ rates₀ (set targets (first + k) (j - 1)) (set rates (first + k) x)
      listed_next x e =
          let next : first + (k + 1) ≡ suc (first + k) = omega arith in
          record {
            count = omega (arith, before.count, ap length (falling_takes (is_added m i) j some taken));
            in_targets = rw next (rw (falling_takes (is_added m i) j some taken) at before.in_targets);
            in_rates = rw (next, e) (rw (falling_takes (is_added m i) j some taken) at before.in_rates);
            same_targets = length-set targets (first + k) (j - 1) ∙ before.same_targets;
            same_rates = length-set rates (first + k) x ∙ before.same_rates;
          }

module _ (m : Model) where
  pub added_fits : (i : ℕ) → length (added_states m i) ≤ m.states
  unfolding added_states
  added_fits i = length_falling (is_added m i) m.states

  abbrev entries : ℕ → List ℕ
  entries i = map (c m i) (added_states m i)

  entries_fit : (i : ℕ) → length (map (c m i) (added_states m i)) ≤ m.states
  entries_fit i = omega (arith, length-map (added_states m i) (c m i), added_fits i)

  -- with every row stored, the arrays hold the rows
  pub rows_listed : (targets rates counts t r k : List ℕ) → m.states * m.states ≤ length targets → m.states * m.states ≤ length rates → t ≡ rows_stored (added_states m) m.states m.states targets → r ≡ rows_stored (λ i. map (c m i) (added_states m i)) m.states m.states rates → k ≡ over m.states (λ i. length (added_states m i)) counts → HoldsRows m (listed t r k)
  rows_listed targets rates counts t r k troom rroom et er ek =
      record {
        target_room = omega (arith, troom, ap length et, length_stored (added_states m) m.states targets m.states);
        rate_room = omega (arith, rroom, ap length er, length_stored entries m.states rates m.states);
        count = λ i l. ap (λ (x : List ℕ). get_or x i 0) ek ∙ get_d_over 0 m.states (λ i. length (added_states m i)) counts i l;
        target = λ i p l b. ap (λ (x : List ℕ). get_or x (i * m.states + p) 0) et ∙ get_d_stored (added_states m) m.states targets m.states (λ i l. added_fits i) i p troom l b;
        rate =
            λ i p l b.
            ap (λ (x : List ℕ). get_or x (i * m.states + p) 0) er
            ∙ get_d_stored entries m.states rates m.states (λ i l. entries_fit i) i p rroom l (omega (arith, b, length-map (added_states m i) (c m i)))
            ∙ get_or-map (c m i) (added_states m i) p 0 0 b;
      }

  -- and each of them is shown to be what document 02 asks for
  pub rows_shown : (a : Listing) → HoldsRows m a → ListsRows m a
  rows_shown a rows = record { row = λ i l. rw (same i l) (row_listed m i l) }
    where
      whole : (i : ℕ) → i < m.states → i * m.states + m.states ≤ length a.targets
      whole i l = omega (arith, rows.target_room, mul-le-mul_right m.states l)

      count : (i : ℕ) → i < m.states → length (states_in m.states a i) ≡ length (added_states m i)
      count i l = length-take-le (get_or a.counts i 0) (drop (i * m.states) a.targets) (omega (arith, rows.count i l, added_fits i, length-drop (i * m.states) a.targets, whole i l)) ∙ rows.count i l

      same : (i : ℕ) → i < m.states → states_in m.states a i ≡ added_states m i
      same i l =
          ext_get_or 0 (states_in m.states a i) (added_states m i) (count i l)
          (λ k b. get_or-take (get_or a.counts i 0) (drop (i * m.states) a.targets) k 0 (omega (arith, b, count i l, rows.count i l)) ∙ get_or-drop (i * m.states) a.targets k 0 ∙ rows.target i k l (omega (arith, b, count i l)))
