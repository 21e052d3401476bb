-- What acceptance tells of a file.
use Rattle.std.specs.Prelude.{ℕ, zero, suc, ◌+◌, ◌*◌, ◌-◌, ◌≤◌, ◌<◌, ◌≡◌, false, not, List, [], ◌∷◌, ◌++◌, get_or, leb, length}
use Rattle.std.proofs.Common.{arith, le_refl, mul-le-mul, mul-le-mul_left, sym, ◌∙◌, ap, append_assoc, mul-pos, ltb-true, ltb-false, leb-false}
use Rattle.std.proofs.Math.Decide.{ℕ_discrete}
use Rattle.std.proofs.lemmas.Bool.{not-false, or_parts}
use Rattle.definitions.specs.Sums.{sum, largest, any_above}
use Rattle.definitions.specs.File.{length_field, version, state_count, highest_moment, tolerance_field, time_field, distributions, reward_field}
use Rattle.definitions.specs.Chain.{Model, model_of, at_time, row_sum, uniform_rate, max_reward, jump_millionths}
use Rattle.definitions.specs.Rules.{accepted, Rows, fitting_length, framing, starts_at_zero, quantities, falls_up_to, listing, last_time, jumps, room, block_size, file_rows, rows, series_rows, first_held, judged_by, file_judgement, judgement, series_judgement}
use Rattle.definitions.specs.Series.{model_at}
use Rattle.laws.specs.SumLaws.{any_largest}
use Rattle.laws.specs.RuleLaws.{and_then, in_parts, NoneHold, none_hold, accepted_value, none_in_parts}
use Rattle.laws.specs.RowLaws.{in_range, weights_by}
use Rattle.laws.specs.ChainLaws.{distributions_max, rate_at_lem, rate_pos}

-- a test of a largest entry, read off
none_above : (k n : ℕ) (f : ℕ → ℕ) → any_above k n f ≡ false → largest n f ≤ k
none_above k n f h = ltb-false k (largest n f) (sym (any_largest k n f) ∙ h)

some_above : (k n : ℕ) (f : ℕ → ℕ) → not (any_above k n f) ≡ false → k < largest n f
some_above k n f h = ltb-true k (largest n f) (sym (any_largest k n f) ∙ not-false (any_above k n f) h)

-- what the reader asks of a file: M is 1 to 64, and after the header's 13 bytes stand M weights for each starting distribution, M rewards
-- and M rows of M − 1 rates
pub record Framed (s : List ℕ) : Type 0 where
  pub states_min : 1 ≤ state_count s
  pub states_max : state_count s ≤ 64
  pub size : length s ≡ fitting_length s + 2

-- a framed file has at most 16,653 bytes
pub length_max : (s : List ℕ) → Framed s → length s ≤ 16653
length_max s f = grind (arith, distributions_max)

-- a block has at most 65 rows of 8 cells
pub block_max : (s : List ℕ) → Framed s → highest_moment s ≤ 8 → block_size s ≤ 520
block_max s f few =
    let rows : state_count s + distributions s ≤ 65 = omega (arith, f.states_max, distributions_max s) in
    mul-le-mul rows few

-- what the steps may assume of a model
pub record WithinLimits (m : Model) : Type 0 where
  pub states_max : m.states ≤ 64
  pub highest_pos : 1 ≤ m.highest
  pub highest_max : m.highest ≤ 8
  pub tolerance_pos : 1 ≤ m.tolerance
  pub tolerance_max : m.tolerance ≤ 100000000
  pub weights_sum : 0 < m.distributions → sum m.states m.start ≡ 1000000
  pub rewards_max : max_reward m ≤ 1000000
  pub rewards_pos : 0 < max_reward m
  pub rate_min : 0 < uniform_rate m
  pub rate_max : uniform_rate m ≤ 10000000
  pub jumps_pos : 1 ≤ jump_millionths m
  pub jumps_max : jump_millionths m ≤ 256000000

-- what acceptance by rows 1 to 12 and 16 tells of a file, by a call that admits the versions from low to high
pub record AcceptedModel (low high : ℕ) (s : List ℕ) : Type 0 where
  pub framed : Framed s
  pub counted : length_field s ≡ length s - 2
  pub oldest : low ≤ version s
  pub newest : version s ≤ high
  pub limits : WithinLimits (model_of s)

-- what acceptance tells of a file of either version, lent with a number of cells
pub record AcceptedFile (s : List ℕ) (cells : ℕ) : Type 0 where
  pub model : AcceptedModel 1 2 s
  pub room : block_size s ≤ cells

-- the rows 1 to 6, read the other way
module _ (low high : ℕ) (s : List ℕ) (row : NoneHold (framing low high s)) where
  counted_by : length_field s ≡ length s - 2
  unfolding framing
  counted_by = grind arith

  pub framed_by : Framed s
  unfolding framing
  framed_by = grind arith

  version_by : (low ≤ version s) × (version s ≤ high)
  unfolding framing
  version_by = in_range low high (version s) row.1.1.0

  moments_by : (1 ≤ highest_moment s) × (highest_moment s ≤ 8)
  unfolding framing
  moments_by = in_range 1 8 (highest_moment s) row.1.1.1.1.0

-- the rows 7 to 12 and 16, with a time T that is not 0 and not too late
limits_by : (low high : ℕ) (s times : List ℕ) (T : ℕ) → NoneHold (framing low high s) → NoneHold (quantities (model_of s) times) → 1 ≤ T → uniform_rate (model_of s) * T ≤ 256000000 → WithinLimits (at_time (model_of s) T)
unfolding quantities max_reward jump_millionths
limits_by low high s times T first row nonzero early =
    let f = framed_by low high s first in
    let highest = moments_by low high s first in
    let row16 = row.1.1 in
    let row9 = row16.1 in
    let tolerance = in_range 1 100000000 (tolerance_field s) row.0 in
    let sums : largest (state_count s) (row_sum (model_of s)) ≤ 10000000 = none_above 10000000 (state_count s) (row_sum (model_of s)) row9.1.1.0 in
    record {
      states_max = f.states_max;
      highest_pos = highest.0;
      highest_max = highest.1;
      tolerance_pos = tolerance.0;
      tolerance_max = tolerance.1;
      weights_sum = weights_by (model_of s) row16.0;
      rewards_max = none_above 1000000 (state_count s) (reward_field s) row9.0;
      rewards_pos = some_above 0 (state_count s) (reward_field s) row9.1.0;
      rate_min = rate_pos (at_time (model_of s) T);
      rate_max = rw (rate_at_lem (model_of s) T) (unfold uniform_rate in omega (arith, sums));
      jumps_pos = mul-pos (rate_pos (at_time (model_of s) T)) nonzero;
      jumps_max = rw (rate_at_lem (model_of s) T) early;
    }

-- row 8: the file's time is not 0, and neither is the first of a list
times_by : (s times : List ℕ) → NoneHold (quantities (model_of s) times) → (1 ≤ time_field s) × (starts_at_zero times ≡ false)
unfolding quantities
times_by s times row = grind arith

-- the rows 1 to 11 and 16, which every call that reads a file shares: what their acceptance with E tells
pub record Rateable (s : List ℕ) (E : ℕ) : Type 0 where
  pub framed : Framed s
  pub highest_max : highest_moment s ≤ 8
  pub rate : E ≡ uniform_rate (model_of s)
  pub rate_max : E ≤ 10000000

pub rateable : (low high : ℕ) (s times : List ℕ) (E : ℕ) → first_held (framing low high s ++ quantities (model_of s) times) (uniform_rate (model_of s)) ≡ accepted E → Rateable s E
unfolding quantities uniform_rate
rateable low high s times E h =
    let first : Rows = framing low high s in
    let none = none_in_parts first (quantities (model_of s) times) (none_hold (first ++ quantities (model_of s) times) (uniform_rate (model_of s)) E h) in
    let rate : uniform_rate (model_of s) ≡ E = accepted_value (first ++ quantities (model_of s) times) (uniform_rate (model_of s)) E h in
    record {
      framed = framed_by low high s none.0;
      highest_max = (moments_by low high s none.0).1;
      rate = sym rate;
      rate_max = omega (arith, none_above 10000000 (state_count s) (row_sum (model_of s)) none.1.1.1.1.1.1.0);
    }

-- rows 1 to 12 and 16: those rows, then the jumps
pub file_in_parts : (low high : ℕ) (s : List ℕ) → file_judgement low high s ≡ and_then (first_held (framing low high s ++ quantities (model_of s) []) (uniform_rate (model_of s))) (judged_by (jumps (uniform_rate (model_of s)) (time_field s)))
unfolding file_judgement
file_in_parts low high s = in_parts (framing low high s ++ quantities (model_of s) []) (jumps (uniform_rate (model_of s)) (time_field s)) (uniform_rate (model_of s)) tt

-- the whole table: those rows, then the room
pub judgement_in_parts : (s : List ℕ) (cells : ℕ) → judgement s cells ≡ and_then (file_judgement 1 2 s) (judged_by (room (block_size s) cells))
unfolding judgement file_judgement rows
judgement_in_parts s cells = in_parts (file_rows 1 2 s) (room (block_size s) cells) tt tt

-- the table of a series: those rows, then the list, the jumps and the room
pub series_in_parts : (s times : List ℕ) (levels cells : ℕ) →
    series_judgement s times levels cells
    ≡ and_then (first_held (framing 1 2 s ++ quantities (model_of s) times) (uniform_rate (model_of s)))
    (judged_by (listing times ++ jumps (uniform_rate (model_of s)) (last_time times) ++ room (length times * block_size s) cells ++ room (length times) levels))
unfolding series_judgement series_rows
series_in_parts s times levels cells =
    let first : Rows = framing 1 2 s ++ quantities (model_of s) times in
    let X : Rows = jumps (uniform_rate (model_of s)) (last_time times) in
    let C : Rows = room (length times * block_size s) cells in
    let N : Rows = room (length times) levels in
    ap (λ (t : Rows). judged_by (t ++ C ++ N)) (append_assoc first (listing times) X)
    ∙ ap (λ (t : Rows). judged_by (t ++ N)) (append_assoc first (listing times ++ X) C)
    ∙ ap (λ (t : Rows). judged_by t) (append_assoc first (listing times ++ X ++ C) N)
    ∙ in_parts first _ (uniform_rate (model_of s)) tt

-- rows 1 to 12 and 16: what acceptance tells
model_by : (low high : ℕ) (s : List ℕ) → NoneHold (file_rows low high s) → AcceptedModel low high s
unfolding jumps
model_by low high s none =
    let to12 = none_in_parts (framing low high s ++ quantities (model_of s) []) (jumps (uniform_rate (model_of s)) (time_field s)) none in
    let to11 = none_in_parts (framing low high s) (quantities (model_of s) []) to12.0 in
    let versions = version_by low high s to11.0 in
    record {
      framed = framed_by low high s to11.0;
      counted = counted_by low high s to11.0;
      oldest = versions.0;
      newest = versions.1;
      limits = limits_by low high s [] (time_field s) to11.0 to11.1 (times_by s [] to11.1).0 (ltb-false 256000000 (uniform_rate (model_of s) * time_field s) to12.1.0);
    }

pub accepted_model : (low high : ℕ) (s : List ℕ) → file_judgement low high s ≡ accepted tt → AcceptedModel low high s
unfolding file_judgement
accepted_model low high s passed = model_by low high s (none_hold (file_rows low high s) (tt {0}) tt passed)

-- all of them
pub accepted_file : (s : List ℕ) (cells : ℕ) → judgement s cells ≡ accepted tt → AcceptedFile s cells
unfolding judgement rows room
accepted_file s cells passed =
    let none = none_in_parts (file_rows 1 2 s) (room (block_size s) cells) (none_hold (rows s cells) (tt {0}) tt passed) in
    record { model = model_by 1 2 s none.0; room = ltb-false cells (block_size s) none.1.0 }

-- row 15: up to time n each time is above the one before it, and so none is above a later one
rises : (n : ℕ) (times : List ℕ) → falls_up_to n times ≡ false → (k : ℕ) → k < n → get_or times k 0 < get_or times (suc k) 0
unfolding falls_up_to
rises zero times h k b = absurd (omega arith)
rises (suc n) times h k b =
    let both = or_parts (falls_up_to n times) (leb (get_or times (suc n) 0) (get_or times n 0)) h in
    elim (ℕ_discrete k n) [
      | yes e ↦ rw e (leb-false (get_or times (suc n) 0) (get_or times n 0) both.1)
      | no ne ↦ rises n times both.0 k (omega arith)
    ]

in_order : (n : ℕ) (times : List ℕ) → falls_up_to n times ≡ false → (j k : ℕ) → j ≤ k → k ≤ n → get_or times j 0 ≤ get_or times k 0
in_order n times h j zero low high =
    let first : j ≡ 0 = omega arith in
    rw first (le_refl (get_or times 0 0))
in_order n times h j (suc k) low high =
    elim (ℕ_discrete j (suc k)) [
      | yes e ↦ rw e (le_refl (get_or times (suc k) 0))
      | no ne ↦ omega (arith, in_order n times h j k (omega arith) (omega arith), rises n times h k (omega arith))
    ]

-- row 8 of a list that has a time
first_time : (times : List ℕ) → starts_at_zero times ≡ false → 1 ≤ length times → 1 ≤ get_or times 0 0
first_time times h some = grind arith

-- what acceptance tells of a file and a list of times, lent with a number of level cells and of block cells
pub record AcceptedSeries (s times : List ℕ) (levels cells : ℕ) : Type 0 where
  pub framed : Framed s
  pub count_min : 1 ≤ length times
  pub count_max : length times ≤ 8
  pub limits : (k : ℕ) → k < length times → WithinLimits (model_at s times k)
  pub block_room : length times * block_size s ≤ cells
  pub level_room : length times ≤ levels

-- no row of the series' table holds, part by part
pub record SeriesRows (s times : List ℕ) (levels cells : ℕ) : Type 0 where
  pub frame : NoneHold (framing 1 2 s)
  pub amounts : NoneHold (quantities (model_of s) times)
  pub list : NoneHold (listing times)
  pub last : NoneHold (jumps (uniform_rate (model_of s)) (last_time times))
  pub for_blocks : NoneHold (room (length times * block_size s) cells)
  pub for_levels : NoneHold (room (length times) levels)

pub series_rows_lem : (s times : List ℕ) (levels cells : ℕ) → series_judgement s times levels cells ≡ accepted tt → SeriesRows s times levels cells
unfolding series_judgement series_rows
series_rows_lem s times levels cells passed =
    let X : Rows = jumps (uniform_rate (model_of s)) (last_time times) in
    let C : Rows = room (length times * block_size s) cells in
    let N : Rows = room (length times) levels in
    let L : Rows = listing times in
    let Q : Rows = quantities (model_of s) times in
    let F : Rows = framing 1 2 s in
    let to13 = none_in_parts (F ++ Q ++ L ++ X ++ C) N (none_hold (series_rows s times levels cells) (tt {0}) tt passed) in
    let to12 = none_in_parts (F ++ Q ++ L ++ X) C to13.0 in
    let to15 = none_in_parts (F ++ Q ++ L) X to12.0 in
    let to11 = none_in_parts (F ++ Q) L to15.0 in
    let to6 = none_in_parts F Q to11.0 in
    record { frame = to6.0; amounts = to6.1; list = to11.1; last = to15.1; for_blocks = to12.1; for_levels = to13.1 }

-- each time is at least 1, and E × T is within its limit
pub time_within : (s times : List ℕ) (levels cells : ℕ) → SeriesRows s times levels cells → (k : ℕ) → k < length times → (1 ≤ get_or times k 0) × (uniform_rate (model_of s) * get_or times k 0 ≤ 256000000)
unfolding listing jumps
time_within s times levels cells none k h =
    let order = none.list.1.0 in
    let low = in_order (length times - 1) times order 0 k (omega arith) (omega arith) in
    let high = in_order (length times - 1) times order k (length times - 1) (omega arith) (omega arith) in
    (omega (arith, low, first_time times (times_by s times none.amounts).1 (omega arith)), omega (arith, mul-le-mul_left (uniform_rate (model_of s)) high, ltb-false 256000000 (uniform_rate (model_of s) * last_time times) none.last.0))

pub accepted_series : (s times : List ℕ) (levels cells : ℕ) → series_judgement s times levels cells ≡ accepted tt → AcceptedSeries s times levels cells
accepted_series s times levels cells passed =
    let none = series_rows_lem s times levels cells passed in
    let count : (1 ≤ length times) × (length times ≤ 8) = unfold listing in in_range 1 8 (length times) none.list.0 in
    record {
      framed = framed_by 1 2 s none.frame;
      count_min = count.0;
      count_max = count.1;
      limits = λ k h. let time = time_within s times levels cells none k h in limits_by 1 2 s times (get_or times k 0) none.frame none.amounts time.0 time.1;
      block_room = unfold room in ltb-false cells (length times * block_size s) none.for_blocks.0;
      level_room = unfold room in ltb-false levels (length times) none.for_levels.0;
    }

-- the file's own time is a list of one
pub one_time : (s : List ℕ) (cells : ℕ) → AcceptedFile s cells → AcceptedSeries s (time_field s ∷ []) 1 cells
one_time s cells f = grind arith
