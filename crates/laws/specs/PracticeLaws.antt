-- Practice files: the draws, the bytes of the file dealt, and that rows 1 to 12 and 16 do not stop it at its own time, where version 1 is admitted.
use Rattle.std.specs.Prelude.{ℕ, zero, suc, ◌+◌, ◌*◌, ◌-◌, ◌/◌, ◌≤◌, ◌<◌, ◌≡◌, refl, false, ◌||◌, length, get_or, eqb, List, [], ◌∷◌, ◌++◌}
use Rattle.std.proofs.Common.{arith, mul-le-mul, add-zero, le_refl, add-one, ◌∙◌, eq-eqb, ne_eqb, le-ltb, sym, ap, ap₂, append_assoc}
use Rattle.std.proofs.Math.Decide.{ℕ_discrete}
use Rattle.definitions.specs.declared.Header.{Header}
use Rattle.definitions.specs.Sums.{firsts}
use Rattle.definitions.specs.Bytes.{bytes_of}
use Rattle.definitions.specs.File.{state_count, highest_moment, time_field, tolerance_field, distributions, reward_field, place}
use Rattle.definitions.specs.Chain.{model_of, jump_rate, row_sum, uniform_rate, max_reward}
use Rattle.definitions.specs.Rules.{Answer, accepted, refused, outside, dimensions, framing, quantities, jumps, block_size, file_rows, judged_by, file_judgement}
use Rattle.definitions.specs.Moment.{run_of, outcome}
use Rattle.definitions.specs.Fields.{Fields, words_of, fields_of, numbers_of, headed, header_of, file_of}
use Rattle.definitions.specs.Practice.{next, stream, upper, draw, practice_fields, practice_file, practice, DealtWell}
use Rattle.laws.specs.Rounding.{quotient_below}
use Rattle.laws.specs.SumLaws.{sum_mono, sum_constant, le_largest, largest_le}
use Rattle.laws.specs.ChainLaws.{other_version}
use Rattle.laws.specs.ListLaws.{length_firsts, firsts_same}
use Rattle.laws.specs.BlockLaws.{firsts_further}
use Rattle.laws.specs.WordLaws.{words_first, firsts_below}
use Rattle.laws.specs.RuleLaws.{NoneHold, none_together, all_pass}
use Rattle.laws.specs.RowLaws.{is_inside, dimensions_by, in_dimensions, no_start, rewards_within, some_reward, sums_within, enough}
use Rattle.laws.specs.Acceptance.{judgement_in_parts}
use Rattle.laws.specs.MomentLaws.{outcome_accepted}
use Rattle.laws.specs.WrittenLaws.{stopped_by_table, stopped_by_room, is_written, was_written}
use Rattle.laws.specs.FieldLaws.{square, Fits, length_file, fields_of_file, states_of_file, highest_of_file, version_of_file}
use Rattle.laws.specs.FileLaws.{tolerance_held, time_held, framing_passes, reward_held, rate_held}

-- no step yet, and one step more
pub stream_first : (seed : ℕ) → stream seed 0 ≡ seed
unfolding stream
stream_first seed = refl

pub stream_next : (seed k : ℕ) → stream seed (k + 1) ≡ next (stream seed k)
unfolding stream
stream_next seed k = rw add-one refl

-- a draw is the upper bits after that step
pub draw_next : (seed k : ℕ) → draw seed k ≡ upper (next (stream seed k))
unfolding stream draw
draw_next seed k = refl

-- the first two draws, and the number that the others follow
pub first_draw : (seed : ℕ) → draw seed 0 ≡ upper (next seed)
unfolding stream draw
first_draw seed = refl

pub second_draw : (seed : ℕ) → draw seed 1 ≡ upper (next (next seed))
unfolding stream draw
second_draw seed = refl

pub second_step : (seed : ℕ) → stream seed 2 ≡ next (next seed)
unfolding stream
second_step seed = refl

-- the stream goes on from any of its numbers
stream_later : (seed a k : ℕ) → stream (stream seed a) k ≡ stream seed (a + k)
unfolding stream
stream_later seed a zero = sym (ap (stream seed) (add-zero a))
stream_later seed a (suc k) = let one : a + suc k ≡ suc (a + k) = omega arith in rw one (ap next (stream_later seed a k))

draw_later : (seed a k : ℕ) → draw (stream seed a) k ≡ draw seed (a + k)
unfolding draw
draw_later seed a k = let one : a + suc k ≡ suc (a + k) = omega arith in ap upper (stream_later seed a (suc k) ∙ ap (stream seed) one)

-- a draw has 16 bits
draw_max : (seed k : ℕ) → draw seed k ≤ 65535
unfolding next stream upper draw
draw_max seed k = omega arith

-- the fields dealt
module _ (M R seed : ℕ) where
  abbrev f : Fields
  f = practice_fields M R seed

  -- rewards and rates of a practice file, counted from 0: number k + 1 is draw k + 2
  module _ (some : 1 ≤ M) where
    numbers_dealt : numbers_of f ≡ (draw seed 1 + 1) ∷ firsts (M * M - 1) (λ k. draw seed (2 + k))
    unfolding practice_fields
    numbers_dealt = ap (λ (l : List ℕ). (draw seed 1 + 1) ∷ l) (rates ∙ sym (ap (λ (n : ℕ). firsts n (λ k. draw seed (2 + k))) all ∙ firsts_further (M - 1) (M * (M - 1)) (λ k. draw seed (2 + k))))
      where
        all : M * M - 1 ≡ (M - 1) + M * (M - 1)
        all = omega (arith, square M some)

        rates : firsts (M - 1) (λ i. draw seed (2 + i)) ++ firsts (M * (M - 1)) (λ k. draw seed (1 + M + k)) ≡ firsts (M - 1) (λ i. draw seed (2 + i)) ++ firsts (M * (M - 1)) (λ i. draw seed (2 + (M - 1 + i)))
        rates = ap (λ (l : List ℕ). firsts (M - 1) (λ i. draw seed (2 + i)) ++ l) (firsts_same (M * (M - 1)) _ _ (λ k l. ap (draw seed) (omega arith)))

    length_dealt : length (numbers_of f) ≡ M * M
    length_dealt = ap (length {A = ℕ}) numbers_dealt ∙ omega (arith, length_firsts (M * M - 1) (λ k. draw seed (2 + k)), square M some)

    -- the file: its header, the first reward, and the draws after it
    bytes_dealt_lem : practice_file M R seed ≡ headed (header_of f) (M * M) ++ (bytes_of 4 (draw seed 1 + 1) ++ words_of (firsts (M * M - 1) (λ k. draw seed (2 + k))))
    unfolding file_of practice_file
    bytes_dealt_lem =
        ap₂ (λ (n : ℕ) (l : List ℕ). headed (header_of f) n ++ words_of l) length_dealt numbers_dealt
        ∙ ap (λ (l : List ℕ). headed (header_of f) (M * M) ++ l) (words_first (draw seed 1 + 1) (firsts (M * M - 1) (λ k. draw seed (2 + k))))

    -- what is put one after the other
    pub text_dealt : (h : Header) (count reward second : ℕ) → h.version ≡ 1 → h.states ≡ M → h.highest ≡ R → h.tolerance ≡ 10000 → h.time ≡ 1 + draw seed 0 / 4096 →
        count ≡ M * M → reward ≡ draw seed 1 + 1 → second ≡ stream seed 2 →
        headed h count ++ bytes_of 4 reward ++ words_of (firsts (count - 1) (draw second)) ≡ practice_file M R seed
    text_dealt h count reward second v m r e t n first from =
        ap₂ (λ (x : Header) (k : ℕ). headed x k ++ bytes_of 4 reward ++ words_of (firsts (k - 1) (draw second))) header n
        ∙ ap₂ (λ (x y : ℕ). headed (header_of f) (M * M) ++ bytes_of 4 x ++ words_of (firsts (M * M - 1) (draw y))) first from
        ∙ append_assoc (headed (header_of f) (M * M)) (bytes_of 4 (draw seed 1 + 1)) (words_of (firsts (M * M - 1) (draw (stream seed 2))))
        ∙ ap (λ (l : List ℕ). headed (header_of f) (M * M) ++ (bytes_of 4 (draw seed 1 + 1) ++ words_of l)) (firsts_same (M * M - 1) (draw (stream seed 2)) (λ k. draw seed (2 + k)) (λ k l. draw_later seed 2 k))
        ∙ sym bytes_dealt_lem
      where
        header : h ≡ header_of f
        header = unfold practice_fields in λ i. record { version = v i; states = m i; highest = r i; tolerance = e i; time = t i }

    length_of_dealt : length (practice_file M R seed) ≡ 4 * (M * M) + 13
    unfolding practice_file
    length_of_dealt = omega (arith, length_file f, length_dealt)

  -- where M and R pass rows 4 and 5
  module _ (row : NoneHold (dimensions M R)) where
    abbrev t : List ℕ
    t = practice_file M R seed

    states_range : (1 ≤ M) × (M ≤ 64)
    states_range = (dimensions_by M R row).0

    highest_range : (1 ≤ R) × (R ≤ 8)
    highest_range = (dimensions_by M R row).1

    -- a reward is at most 65,536, a rate at most 65,535, and the time at most 16
    reward_below : (i : ℕ) → get_or f.rewards i 0 < 65537
    unfolding practice_fields
    reward_below zero = omega (arith, draw_max seed 1)
    reward_below (suc i) = firsts_below 65537 (M - 1) (λ k. draw seed (2 + k)) (λ k. omega (arith, draw_max seed (2 + k))) i

    rate_below : (i : ℕ) → get_or f.rates i 0 < 65536
    unfolding practice_fields
    rate_below i = firsts_below 65536 (M * (M - 1)) (λ k. draw seed (1 + M + k)) (λ k. omega (arith, draw_max seed (1 + M + k))) i

    time_range : (1 ≤ f.time) × (f.time ≤ 16)
    unfolding practice_fields
    time_range = (omega arith, omega (arith, quotient_below (draw seed 0) 16 4096 (omega (arith, draw_max seed 0))))

    -- a file can hold the fields
    fits : Fits f
    fits =
        record {
          version_fits = unfold practice_fields in omega arith;
          states_min = unfold practice_fields in states_range.0;
          states_fit = unfold practice_fields in omega (arith, states_range);
          highest_fits = unfold practice_fields in omega (arith, highest_range);
          tolerance_fits = unfold practice_fields in omega arith;
          time_fits = omega (arith, time_range);
          weights_count = unfold practice_fields in omega arith;
          rewards_count = unfold practice_fields in omega (arith, length_firsts (M - 1) (λ i. draw seed (2 + i)), states_range);
          rates_count = unfold practice_fields in length_firsts (M * (M - 1)) (λ k. draw seed (1 + M + k));
          weights_fit = λ i. unfold practice_fields in omega arith;
          rewards_fit = λ i. omega (arith, reward_below i);
          rates_fit = λ i. omega (arith, rate_below i);
          length_fits = omega (arith, length_dealt states_range.0, mul-le-mul states_range.1 states_range.1);
        }

    fields_dealt : fields_of t ≡ f
    unfolding practice_file
    fields_dealt = fields_of_file f fits

    states_are : state_count t ≡ M
    unfolding practice_fields practice_file
    states_are = states_of_file f

    is_state : (i : ℕ) → i < state_count t → i < f.states
    unfolding practice_file
    is_state i l = omega (arith, states_of_file f)

    -- no starting distribution
    no_distribution : distributions t ≡ 0
    unfolding practice_fields practice_file
    no_distribution = other_version t (λ e. let z : ◌≡◌ {A = ℕ} 1 2 = sym (version_of_file f) ∙ e in omega arith)

    reward_max : max_reward (model_of t) ≤ 65536
    unfolding max_reward practice_file
    reward_max = largest_le (state_count t) 65536 (reward_field t) (λ i l. omega (arith, reward_held f fits i (is_state i l), reward_below i))

    -- the first reward is at least 1
    reward_pos : 0 < max_reward (model_of t)
    unfolding max_reward practice_fields practice_file
    reward_pos = omega (arith, le_largest (state_count t) (reward_field t) 0 (omega (arith, states_are, states_range)), reward_held f fits 0 states_range.0)

    jump_max : (i j : ℕ) → i < state_count t → j < state_count t → jump_rate (model_of t) i j ≤ 65535
    unfolding jump_rate practice_file
    jump_max i j li lj =
        elim (ℕ_discrete j i) [
          | yes e ↦ rw (eq-eqb j i e) (omega arith)
          | no ne ↦ rw (ne_eqb j i ne) (omega (arith, rate_held f fits i j (is_state i li) (is_state j lj) ne, rate_below (i * (f.states - 1) + place i j)))
        ]

    -- so each row sum is at most 64 × 65,535
    sum_max : (i : ℕ) → i < state_count t → row_sum (model_of t) i ≤ 4194240
    unfolding row_sum
    sum_max i l = omega (arith, sum_mono (state_count t) (jump_rate (model_of t) i) (λ j. 65535) (λ j lj. jump_max i j l lj), sum_constant (state_count t) 65535, states_are, states_range)

    rate_max : uniform_rate (model_of t) ≤ 4194240
    unfolding uniform_rate
    rate_max = omega (arith, largest_le (state_count t) 4194240 (row_sum (model_of t)) sum_max)

    time_dealt : (1 ≤ time_field t) × (time_field t ≤ 16)
    unfolding practice_file
    time_dealt = rw (time_held f fits) time_range

    tolerance_passes : outside 1 100000000 (tolerance_field t) ≡ false
    unfolding practice_fields practice_file
    tolerance_passes = rw (tolerance_held f fits) refl

    -- rows 7, 8, 16 and 9 to 11
    quantities_pass : NoneHold (quantities (model_of t) [])
    unfolding quantities
    quantities_pass = (tolerance_passes, (time, (no_start (model_of t) no_distribution, (rewards_within t (omega (arith, reward_max)), (some_reward t reward_pos, (sums_within t (omega (arith, rate_max)), tt))))))
      where
        time : (eqb (time_field t) 0 || false) ≡ false
        time = rw (ne_eqb (time_field t) 0 (λ e. omega (arith, time_dealt, e))) refl

    -- row 12
    jumps_pass : NoneHold (jumps (uniform_rate (model_of t)) (time_field t))
    unfolding jumps
    jumps_pass = (le-ltb 256000000 (uniform_rate (model_of t) * time_field t) (omega (arith, mul-le-mul rate_max time_dealt.1)), tt)

    -- rows 1 to 6
    frame_passes : (newest : ℕ) → 1 ≤ newest → NoneHold (framing 1 newest t)
    unfolding practice_fields practice_file
    frame_passes newest new = framing_passes f fits 1 newest (le_refl 1) new row

    -- rows 1 to 12 and 16 pass at its own time, for a call that admits version 1
    dealt_accepted : (newest : ℕ) → 1 ≤ newest → file_judgement 1 newest t ≡ accepted tt
    unfolding file_judgement
    dealt_accepted newest new =
        all_pass (file_rows 1 newest t) (tt {0})
        (none_together (framing 1 newest t ++ quantities (model_of t) []) (jumps (uniform_rate (model_of t)) (time_field t))
        (none_together (framing 1 newest t) (quantities (model_of t) []) (frame_passes newest new) quantities_pass)
        jumps_pass)

    highest_is : highest_moment t ≡ R
    unfolding practice_fields practice_file
    highest_is = highest_of_file f

    -- with M × R cells it has a level
    dealt_figures : (cells : ℕ) → M * R ≤ cells → outcome t cells ≡ accepted (run_of (model_of t))
    dealt_figures cells enough_cells =
        outcome_accepted t cells (judgement_in_parts t cells ∙ rw (dealt_accepted 2 (omega arith)) (enough (block_size t) cells block))
      where
        block : block_size t ≤ cells
        block = omega (arith, ap₂ (λ (a b : ℕ). (a + distributions t) * b) states_are highest_is, ap (λ (d : ℕ). (M + d) * R) no_distribution)

-- the call: refused by rows 4 and 5, by row 13, or the file
module _ (M R seed lent : ℕ) where
  pub dealing_refused : (k : ℕ) → judged_by (dimensions M R) ≡ refused k → practice M R seed lent ≡ refused k
  unfolding practice
  dealing_refused k e = stopped_by_table (dimensions M R) (practice_file M R seed) lent k e

  module _ (passed : judged_by (dimensions M R) ≡ accepted tt) where
    pub no_room_to_deal : lent < 4 * (M * M) + 13 → practice M R seed lent ≡ refused 13
    unfolding practice
    no_room_to_deal few = stopped_by_room (dimensions M R) (practice_file M R seed) lent passed (omega (arith, length_of_dealt M R seed (in_dimensions M R passed).0.0))

    pub dealing_accepted : 4 * (M * M) + 13 ≤ lent → practice M R seed lent ≡ accepted (practice_file M R seed)
    unfolding practice
    dealing_accepted bytes = is_written (dimensions M R) (practice_file M R seed) lent passed (omega (arith, length_of_dealt M R seed (in_dimensions M R passed).0.0))

  -- every M and R in range deal a file, for every seed number
  pub dealt : 1 ≤ M → M ≤ 64 → 1 ≤ R → R ≤ 8 → 4 * (M * M) + 13 ≤ lent → practice M R seed lent ≡ accepted (practice_file M R seed)
  dealt m0 m1 r0 r1 = dealing_accepted (all_pass (dimensions M R) (tt {0}) (is_inside 1 64 M m0 m1, (is_inside 1 8 R r0 r1, tt)))

-- and every file that is dealt is a good one
pub dealt_well : (M R seed lent : ℕ) → DealtWell (practice M R seed lent) M R seed
unfolding practice
dealt_well M R seed lent = from (practice M R seed lent) refl
  where
    from : (a : Answer (List ℕ)) → practice M R seed lent ≡ a → DealtWell a M R seed
    from (refused k) e = tt
    from (accepted file) e = grind (arith, was_written, fields_dealt, dealt_accepted, dealt_figures)
