-- Document 02, S-5: a file moved to the other version: its bytes, what calls answer of it, and the way back.
use Rattle.std.specs.Prelude.{ℕ, zero, suc, ◌+◌, ◌*◌, ◌-◌, ◌≤◌, ◌<◌, ◌^◌, ◌≡◌, true, false, length, get_or, take, drop, replicate, refl, List, [], ◌∷◌, ◌++◌}
use Rattle.std.proofs.Common.{arith, add-one, ◌∙◌, ap₂, ltb-false, sym, ap, subst, append-nil, ext_get_or}
use Rattle.std.proofs.lemmas.List.{length-replicate, replicate-append-replicate}
use Rattle.definitions.specs.Sums.{sum, largest, any_above, firsts}
use Rattle.definitions.specs.Bytes.{bytes_of}
use Rattle.definitions.specs.File.{length_field, version, state_count, distributions, weight_field, rewards_at}
use Rattle.definitions.specs.Chain.{model_of}
use Rattle.definitions.specs.Rules.{Answer, accepted, refused, Rows, misweighted, file_rows, judged_by, file_judgement}
use Rattle.definitions.specs.Weights.{MILLION}
use Rattle.definitions.specs.Moment.{moment, start_figure}
use Rattle.definitions.specs.Fields.{Fields, in_version, numbers_at, words_of, fields_of, file_of}
use Rattle.definitions.specs.Written.{file_for}
use Rattle.definitions.specs.Convert.{in_version_2, in_version_1, moved_to_2, moved_to_1, elsewhere, to_version_2, to_version_1, Moved, ThereAndBack}
use Rattle.laws.specs.SumLaws.{any_largest, le_largest, sum_single}
use Rattle.laws.specs.ListLaws.{length_firsts, get_d_firsts}
use Rattle.laws.specs.ArrayLaws.{zeros, zero_at}
use Rattle.laws.specs.RuleLaws.{and_then, row_stops, row_passes, none_left, in_parts, NoneHold, none_hold, none_in_parts, none_together, all_pass, agree}
use Rattle.laws.specs.RowLaws.{no_start, with_start, none_found}
use Rattle.laws.specs.ChainLaws.{version_2, other_version}
use Rattle.laws.specs.Acceptance.{accepted_model}
use Rattle.laws.specs.WrittenLaws.{stopped_by_table, stopped_by_room, is_written, was_written}
use Rattle.laws.specs.WordLaws.{words_first}
use Rattle.laws.specs.StartLaws.{start_of_one}
use Rattle.laws.specs.FieldLaws.{Whole, numbers_in_version, bytes_in_version, file_of_fields, Fits, length_file}
use Rattle.laws.specs.MovedLaws.{Carried, in_version_fits, carried}

-- the bytes of so many zeros
words_zeros : (n : ℕ) → words_of (replicate n 0) ≡ replicate (4 * n) 0
unfolding words_of bytes_of
words_zeros zero = refl
words_zeros (suc n) =
    let four : 4 * suc n ≡ 4 + 4 * n = omega arith in
    rw four (ap (λ (l : List ℕ). replicate 4 0 ++ l) (words_zeros n) ∙ replicate-append-replicate 4 (4 * n) 0)

-- numbers of which all but the first are 0
sum_first : (n : ℕ) (a : ℕ → ℕ) → 1 ≤ n → ((i : ℕ) → i < n - 1 → a (i + 1) ≡ 0) → sum n a ≡ a 0
sum_first n a low zeros = sum_single n 0 a low (λ j h other. let place : j ≡ j - 1 + 1 = omega (arith, other) in ap a place ∙ zeros (j - 1) (omega (arith, other)))

-- where row 17 passes, all weights but the first are 0
all_zero : (n : ℕ) (a : ℕ → ℕ) → any_above 0 (n - 1) (λ k. a (k + 1)) ≡ false → (i : ℕ) → i < n - 1 → a (i + 1) ≡ 0
all_zero n a none i h = omega (arith, le_largest (n - 1) (λ k. a (k + 1)) i h, ltb-false 0 (largest (n - 1) (λ k. a (k + 1))) (sym (any_largest 0 (n - 1) (λ k. a (k + 1))) ∙ none))

-- all weight on the first of n states
abbrev on_first : ℕ → List ℕ
on_first n = MILLION ∷ replicate (n - 1) 0

first_count : (n : ℕ) → 1 ≤ n → length (on_first n) ≡ n
first_count n h = omega (arith, length-replicate {A = ℕ} (n - 1) 0)

first_fits : (n i : ℕ) → get_or (on_first n) i 0 < 2 ^ 32
unfolding zeros
first_fits n zero = omega arith
first_fits n (suc i) = omega (arith, zero_at (n - 1) i)

first_later : (n i : ℕ) → get_or (on_first n) (i + 1) 0 ≡ 0
unfolding zeros
first_later n i = ap (λ (k : ℕ). get_or (on_first n) k 0) (add-one i) ∙ zero_at (n - 1) i

module _ (s : List ℕ) (bytes : (i : ℕ) → get_or s i 0 < 256) where
  abbrev M : ℕ
  M = state_count s

  -- a file that is accepted is whole
  whole_by : (v : ℕ) → file_judgement v v s ≡ accepted tt → Whole s
  whole_by v passed =
      let told = accepted_model v v s passed in
      record { bytes = bytes; states_min = told.framed.states_min; size = told.framed.size; counted = told.counted }

  version_is : (v : ℕ) → file_judgement v v s ≡ accepted tt → version s ≡ v
  version_is v passed = let told = accepted_model v v s passed in omega (arith, told.oldest, told.newest)

  none_by : (v : ℕ) → file_judgement v v s ≡ accepted tt → NoneHold (file_rows v v s)
  unfolding file_judgement
  none_by v passed = none_hold (file_rows v v s) (tt {0}) tt passed

  -- a file with the version and the weights that it has is itself
  same_start : (v : ℕ) (w : List ℕ) → Whole s → version s ≡ v → (fields_of s).weights ≡ w → file_of (in_version v w (fields_of s)) ≡ s
  unfolding fields_of
  same_start v w whole e q = grind (arith, file_of_fields)

  -- a version 1 file, moved to version 2
  module _ (passed : file_judgement 1 1 s ≡ accepted tt) where
    whole_1 : Whole s
    whole_1 = whole_by 1 passed

    is_1 : version s ≡ 1
    is_1 = version_is 1 passed

    few_1 : M ≤ 64
    few_1 = (accepted_model 1 1 s passed).framed.states_max

    -- it has no weights of its own
    none_held : distributions s * M ≡ 0
    none_held = ap (λ (d : ℕ). d * M) (other_version s (λ e. omega (arith, is_1))) ∙ omega arith

    weights_1 : (fields_of s).weights ≡ []
    unfolding fields_of numbers_at firsts
    weights_1 = rw none_held refl

    -- the moved file
    abbrev there : List ℕ
    there = file_of (in_version 2 (on_first M) (fields_of s))

    is_there : moved_to_2 s ≡ there
    unfolding in_version_2 fields_of
    is_there = refl

    first_of_all : length (on_first M) ≡ M
    first_of_all = first_count M whole_1.states_min

    fits_there : Fits (in_version 2 (on_first M) (fields_of s))
    fits_there = in_version_fits s whole_1 2 (on_first M) few_1 (omega arith) (omega (arith, first_of_all)) (omega (arith, first_of_all)) (first_fits M)

    told_there : Carried s there 2 (on_first M)
    told_there = carried s whole_1 2 (on_first M) fits_there

    length_there : length (moved_to_2 s) ≡ length s + 4 * M
    length_there = ap (length {A = ℕ}) is_there ∙ omega (arith, length_file (in_version 2 (on_first M) (fields_of s)), numbers_in_version s whole_1 2 (on_first M), first_of_all, whole_1.size, none_held)

    -- its bytes: the new length, the version, bytes 3 to 12 as they were, the weights, and the rest as it was
    pub bytes_there : moved_to_2 s ≡ bytes_of 2 (length_field s + 4 * M) ++ (2 ∷ []) ++ take 10 (drop 3 s) ++ (bytes_of 4 1000000 ++ replicate (4 * (M - 1)) 0) ++ drop 13 s
    bytes_there =
        is_there
        ∙ bytes_in_version s whole_1 2 (on_first M)
        ∙ ap₂ (λ (n k : ℕ). bytes_of 2 n ++ (2 ∷ []) ++ take 10 (drop 3 s) ++ words_of (on_first M) ++ drop k s) longer rewards_first
        ∙ ap (λ (l : List ℕ). bytes_of 2 (length_field s + 4 * M) ++ (2 ∷ []) ++ take 10 (drop 3 s) ++ l ++ drop 13 s) (words_first MILLION (replicate (M - 1) 0) ∙ ap (λ (l : List ℕ). bytes_of 4 1000000 ++ l) (words_zeros (M - 1)))
      where
        rewards_first : rewards_at s ≡ 13
        rewards_first = omega (arith, none_held)

        longer : 4 * (length (on_first M) + M * M) + 11 ≡ length_field s + 4 * M
        longer = omega (arith, first_of_all, whole_1.size, whole_1.counted, none_held)

    -- its weights
    weight_there : (i : ℕ) → i < M → weight_field there i ≡ get_or (on_first M) i 0
    weight_there i h = told_there.weights i (omega (arith, h, ap₂ ◌*◌ told_there.distributed told_there.states))

    weight_later : (i : ℕ) → i < M - 1 → weight_field there (i + 1) ≡ 0
    weight_later i h = weight_there (i + 1) (omega arith) ∙ first_later M i

    weighed_there : misweighted (model_of there) ≡ false
    weighed_there =
        with_start (model_of there) (omega (arith, told_there.distributed))
        ∙ agree (sum (state_count there) (weight_field there)) 1000000
        (ap (λ (n : ℕ). sum n (weight_field there)) told_there.states
        ∙ sum_first M (weight_field there) whole_1.states_min weight_later
        ∙ weight_there 0 whole_1.states_min)

    -- its start figures are the moments of the first state
    pub start_there : (N r : ℕ) → start_figure (model_of (moved_to_2 s)) N r ≡ moment (model_of s) N r 0
    start_there N r =
        subst (λ (x : List ℕ). start_figure (model_of x) N r ≡ moment (model_of s) N r 0) (sym is_there)
        (start_of_one (model_of there) N r 0 (omega (arith, told_there.states, whole_1.states_min)) (weight_there 0 whole_1.states_min)
        (λ j l other. let place : j ≡ j - 1 + 1 = omega (arith, other) in ap (weight_field there) place ∙ weight_later (j - 1) (omega (arith, l, other, told_there.states)))
        ∙ told_there.moments N r 0)

    none_elsewhere : NoneHold (elsewhere (model_of there))
    unfolding elsewhere
    none_elsewhere = (none_found (state_count there) (weight_field there) (λ i a b. let place : i - 1 + 1 ≡ i = omega arith in ap (weight_field there) (sym place) ∙ weight_later (i - 1) (omega (arith, a, b, told_there.states))), tt)

    -- moved back it is s
    pub back_from_2 : moved_to_1 (moved_to_2 s) ≡ s
    unfolding in_version_1
    back_from_2 =
        ap moved_to_1 is_there
        ∙ ap (λ (x : Fields). file_of (in_version 1 [] x)) told_there.fields
        ∙ same_start 1 [] whole_1 is_1 weights_1

    -- the call back returns s
    returned_there : (lent : ℕ) → length s ≤ lent → to_version_1 there lent ≡ accepted s
    unfolding to_version_1
    returned_there lent enough =
        let table : Rows = file_rows 2 2 there ++ elsewhere (model_of there) in
        let none : NoneHold table = none_together (file_rows 2 2 there) (elsewhere (model_of there)) (told_there.rows 1 1 2 2 (omega arith) (omega arith) weighed_there (none_by 1 passed)) none_elsewhere in
        ap (λ (x : List ℕ). file_for table x lent) (sym (ap moved_to_1 is_there) ∙ back_from_2) ∙ is_written table s lent (all_pass table tt none) enough

    moved_there : Moved s there to_version_1
    moved_there =
        record {
          accepts = unfold file_judgement in all_pass (file_rows 1 2 there) tt (told_there.rows 1 1 1 2 (omega arith) (omega arith) weighed_there (none_by 1 passed));
          same_level = told_there.level;
          same_moments = told_there.moments;
          returns = returned_there;
        }

  -- a version 2 file, moved to version 1
  module _ (passed : file_judgement 2 2 s ≡ accepted tt) where
    whole_2 : Whole s
    whole_2 = whole_by 2 passed

    is_2 : version s ≡ 2
    is_2 = version_is 2 passed

    few_2 : M ≤ 64
    few_2 = (accepted_model 2 2 s passed).framed.states_max

    -- it has one weight for each state
    all_held : distributions s * M ≡ M
    all_held = ap (λ (d : ℕ). d * M) (version_2 s is_2) ∙ omega arith

    pub size_2 : length s ≡ 4 * (M * M) + 4 * M + 13
    size_2 = omega (arith, whole_2.size, all_held)

    -- the moved file
    abbrev back : List ℕ
    back = file_of (in_version 1 [] (fields_of s))

    is_back : moved_to_1 s ≡ back
    unfolding in_version_1
    is_back = refl

    fits_back : Fits (in_version 1 [] (fields_of s))
    fits_back = in_version_fits s whole_2 1 [] few_2 (omega arith) (omega arith) (omega arith) (λ i. omega arith)

    told_back : Carried s back 1 []
    told_back = carried s whole_2 1 [] fits_back

    length_back : length (moved_to_1 s) + 4 * M ≡ length s
    length_back = ap (λ (l : List ℕ). length l + 4 * M) is_back ∙ omega (arith, length_file (in_version 1 [] (fields_of s)), numbers_in_version s whole_2 1 [], whole_2.size, all_held)

    -- its bytes: the new length, the version, bytes 3 to 12 as they were, and what follows the weights as it was
    pub bytes_back : moved_to_1 s ≡ bytes_of 2 (length_field s - 4 * M) ++ (1 ∷ []) ++ take 10 (drop 3 s) ++ drop (13 + 4 * M) s
    bytes_back =
        is_back
        ∙ bytes_in_version s whole_2 1 []
        ∙ ap₂ (λ (n k : ℕ). bytes_of 2 n ++ (1 ∷ []) ++ take 10 (drop 3 s) ++ words_of [] ++ drop k s) shorter rewards_later
        ∙ ap (λ (l : List ℕ). before ++ l ++ drop (13 + 4 * M) s) no_words
        ∙ ap (λ (l : List ℕ). l ++ drop (13 + 4 * M) s) (append-nil before)
      where
        before : List ℕ
        before = bytes_of 2 (length_field s - 4 * M) ++ (1 ∷ []) ++ take 10 (drop 3 s)

        rewards_later : rewards_at s ≡ 13 + 4 * M
        rewards_later = omega (arith, all_held)

        shorter : 4 * (0 + M * M) + 11 ≡ length_field s - 4 * M
        shorter = omega (arith, whole_2.size, whole_2.counted, all_held)

        no_words : words_of [] ≡ []
        no_words = unfold words_of in refl

    weighed_back : misweighted (model_of back) ≡ false
    weighed_back = no_start (model_of back) told_back.distributed

    module _ (first : NoneHold (elsewhere (model_of s))) where
      -- row 17: those of the later states are 0
      zero_later : (i : ℕ) → i < M - 1 → weight_field s (i + 1) ≡ 0
      unfolding elsewhere
      zero_later = all_zero M (weight_field s) first.0

      -- and by row 16 they sum to 1,000,000: so they are 1,000,000 and then zeros
      weight_is : (i : ℕ) → i < M → weight_field s i ≡ get_or (on_first M) i 0
      unfolding zeros
      weight_is zero h = sym (sum_first M (weight_field s) whole_2.states_min zero_later) ∙ (accepted_model 2 2 s passed).limits.weights_sum (omega (arith, version_2 s is_2))
      weight_is (suc i) h = ap (weight_field s) (sym (add-one i)) ∙ zero_later i (omega arith) ∙ sym (zero_at (M - 1) i)

      weights_2 : (fields_of s).weights ≡ on_first M
      unfolding fields_of numbers_at
      weights_2 =
          ap (λ (n : ℕ). firsts n (weight_field s)) all_held
          ∙ ext_get_or 0 (firsts M (weight_field s)) (on_first M) (length_firsts M (weight_field s) ∙ sym (first_count M whole_2.states_min))
          (λ i h. let inside : i < M = omega (arith, h, length_firsts M (weight_field s)) in get_d_firsts 0 M (weight_field s) i inside ∙ weight_is i inside)

      -- moved back it is s
      pub back_from_1 : moved_to_2 (moved_to_1 s) ≡ s
      unfolding in_version_1 in_version_2 fields_of
      back_from_1 = ap (λ (x : Fields). file_of (in_version_2 x)) told_back.fields ∙ same_start 2 (on_first M) whole_2 is_2 weights_2

      returned_back : (lent : ℕ) → length s ≤ lent → to_version_2 back lent ≡ accepted s
      unfolding to_version_2
      returned_back lent enough =
          let none : NoneHold (file_rows 1 1 back) = told_back.rows 2 2 1 1 (omega arith) (omega arith) weighed_back (none_by 2 passed) in
          ap (λ (x : List ℕ). file_for (file_rows 1 1 back) x lent) (sym (ap moved_to_2 is_back) ∙ back_from_1) ∙ is_written (file_rows 1 1 back) s lent (all_pass (file_rows 1 1 back) tt none) enough

      moved_back : Moved s back to_version_2
      moved_back =
          record {
            accepts = unfold file_judgement in all_pass (file_rows 1 2 back) tt (told_back.rows 2 2 1 2 (omega arith) (omega arith) weighed_back (none_by 2 passed));
            same_level = told_back.level;
            same_moments = told_back.moments;
            returns = returned_back;
          }

-- what the calls answer where a row from 1 to 12, or 16, holds
pub refused_there : (s : List ℕ) (lent k : ℕ) → file_judgement 1 1 s ≡ refused k → to_version_2 s lent ≡ refused k
unfolding to_version_2 file_judgement
refused_there s lent k stopped = stopped_by_table (file_rows 1 1 s) (moved_to_2 s) lent k stopped

-- the way back asks these rows, and then row 17
back_in_parts : (s : List ℕ) → judged_by (file_rows 2 2 s ++ elsewhere (model_of s)) ≡ and_then (file_judgement 2 2 s) (judged_by (elsewhere (model_of s)))
unfolding file_judgement
back_in_parts s = in_parts (file_rows 2 2 s) (elsewhere (model_of s)) tt tt

pub refused_back : (s : List ℕ) (lent k : ℕ) → file_judgement 2 2 s ≡ refused k → to_version_1 s lent ≡ refused k
unfolding to_version_1
refused_back s lent k stopped = stopped_by_table (file_rows 2 2 s ++ elsewhere (model_of s)) (moved_to_1 s) lent k (back_in_parts s ∙ rw stopped refl)

-- where they pass and row 17 holds
pub weighed_elsewhere : (s : List ℕ) (lent : ℕ) → file_judgement 2 2 s ≡ accepted tt → any_above 0 (state_count s - 1) (λ i. weight_field s (i + 1)) ≡ true → to_version_1 s lent ≡ refused 17
unfolding to_version_1 elsewhere
weighed_elsewhere s lent passed held = stopped_by_table (file_rows 2 2 s ++ elsewhere (model_of s)) (moved_to_1 s) lent 17 (back_in_parts s ∙ rw passed (row_stops 17 _ _ _ held))

-- and where all of them pass, by the bytes that are lent
module _ (s : List ℕ) (bytes : (i : ℕ) → get_or s i 0 < 256) (lent : ℕ) where
  pub no_room_there : file_judgement 1 1 s ≡ accepted tt → lent < length s + 4 * state_count s → to_version_2 s lent ≡ refused 13
  unfolding to_version_2 file_judgement
  no_room_there passed few = stopped_by_room (file_rows 1 1 s) (moved_to_2 s) lent passed (omega (arith, few, length_there s bytes passed))

  pub written_there : file_judgement 1 1 s ≡ accepted tt → length s + 4 * state_count s ≤ lent → to_version_2 s lent ≡ accepted (moved_to_2 s)
  unfolding to_version_2 file_judgement
  written_there passed enough = is_written (file_rows 1 1 s) (moved_to_2 s) lent passed (omega (arith, enough, length_there s bytes passed))

  module _ (passed : file_judgement 2 2 s ≡ accepted tt) (none : any_above 0 (state_count s - 1) (λ i. weight_field s (i + 1)) ≡ false) where
    all_passed : judged_by (file_rows 2 2 s ++ elsewhere (model_of s)) ≡ accepted tt
    unfolding elsewhere
    all_passed = back_in_parts s ∙ rw passed (row_passes 17 _ _ _ none ∙ none_left tt)

    pub no_room_back : lent < length s - 4 * state_count s → to_version_1 s lent ≡ refused 13
    unfolding to_version_1
    no_room_back few = stopped_by_room (file_rows 2 2 s ++ elsewhere (model_of s)) (moved_to_1 s) lent all_passed (omega (arith, few, length_back s bytes passed))

    pub written_back : length s - 4 * state_count s ≤ lent → to_version_1 s lent ≡ accepted (moved_to_1 s)
    unfolding to_version_1
    written_back enough = is_written (file_rows 2 2 s ++ elsewhere (model_of s)) (moved_to_1 s) lent all_passed (omega (arith, enough, length_back s bytes passed))

-- "there and back returns the same bytes": of every answer of the calls
module _ (s : List ℕ) (bytes : (i : ℕ) → get_or s i 0 < 256) (lent : ℕ) where
  -- to version 2 and back
  there_and_back_1 : (t : List ℕ) → to_version_2 s lent ≡ accepted t → Moved s t to_version_1
  unfolding to_version_2 file_judgement
  there_and_back_1 t h =
      let written = was_written (file_rows 1 1 s) (moved_to_2 s) lent t h in
      let passed : file_judgement 1 1 s ≡ accepted tt = all_pass (file_rows 1 1 s) tt written.0 in
      subst (λ (x : List ℕ). Moved s x to_version_1) (sym (is_there s bytes passed) ∙ written.1) (moved_there s bytes passed)

  -- to version 1 and back
  there_and_back_2 : (t : List ℕ) → to_version_1 s lent ≡ accepted t → Moved s t to_version_2
  unfolding to_version_1 file_judgement
  there_and_back_2 t h =
      let written = was_written (file_rows 2 2 s ++ elsewhere (model_of s)) (moved_to_1 s) lent t h in
      let none = none_in_parts (file_rows 2 2 s) (elsewhere (model_of s)) written.0 in
      let passed : file_judgement 2 2 s ≡ accepted tt = all_pass (file_rows 2 2 s) tt none.0 in
      subst (λ (x : List ℕ). Moved s x to_version_2) (sym (is_back s bytes passed) ∙ written.1) (moved_back s bytes passed none.1)

  pub answer_there : ThereAndBack (to_version_2 s lent) s to_version_1
  answer_there = told (to_version_2 s lent) refl
    where
      told : (a : Answer (List ℕ)) → to_version_2 s lent ≡ a → ThereAndBack a s to_version_1
      told (accepted t) e = there_and_back_1 t e
      told (refused k) e = tt

  pub answer_back : ThereAndBack (to_version_1 s lent) s to_version_2
  answer_back = told (to_version_1 s lent) refl
    where
      told : (a : Answer (List ℕ)) → to_version_1 s lent ≡ a → ThereAndBack a s to_version_2
      told (accepted t) e = there_and_back_2 t e
      told (refused k) e = tt
