-- Document 02, S-3: each level and each block of a series is that of a run of the file with that time alone. That demand 3 holds of it is shown in proofs/.
use Rattle.std.specs.Prelude.{ℕ, ◌+◌, ◌*◌, ◌≤◌, ◌<◌, ◌^◌, ◌≡◌, length, get_or, drop, List, [], ◌++◌}
use Rattle.std.proofs.Common.{arith, le_refl, mul-le-mul_right, sym, ◌∙◌, subst, length-drop, length-take-le, le-ltb, ap}
use Rattle.definitions.specs.Sums.{over}
use Rattle.definitions.specs.Bytes.{big, bytes_of}
use Rattle.definitions.specs.File.{state_count, tolerance_field, time_field, distributions, reward_field, rate_field, with_time}
use Rattle.definitions.specs.Chain.{Model, model_of, at_time, jump_rate, row_sum, uniform_rate, block_of}
use Rattle.definitions.specs.Rules.{accepted, refused, framing, quantities, jumps, room, block_size, rows, series_rows, judgement, series_judgement}
use Rattle.definitions.specs.Moment.{cell, model_level, run_to, run_of, cells_after}
use Rattle.definitions.specs.Series.{model_at, level_at, means_of_all, series_outcome, levels_after, blocks_after, block, IsRun, AreRuns}
use Rattle.laws.specs.RuleLaws.{NoneHold, all_pass, none_together, also_refused, also_accepted}
use Rattle.laws.specs.ListLaws.{get_d_over}
use Rattle.laws.specs.ByteLaws.{big_stored, number_before, number_after_lem}
use Rattle.laws.specs.FrameLaws.{SameFrame, states_same, highest_same, distributions_same, framing_same, frame_stored}
use Rattle.laws.specs.BlockLaws.{block_end, block_is}
use Rattle.laws.specs.ChainLaws.{rate_at_lem, rate_pos}
use Rattle.laws.specs.Acceptance.{AcceptedSeries, SeriesRows, series_rows_lem, time_within, accepted_series}
use Rattle.laws.specs.MomentLaws.{outcome_accepted}

-- the file s with the time T
module _ (s : List ℕ) (T : ℕ) where
  -- has its length and its first bytes
  frame_with : SameFrame s (with_time s T)
  unfolding with_time
  frame_with = frame_stored s 9 (bytes_of 4 T) (omega arith)

  states_with : state_count (with_time s T) ≡ state_count s
  states_with = states_same s (with_time s T) frame_with

  distributions_with : distributions (with_time s T) ≡ distributions s
  distributions_with = distributions_same s (with_time s T) frame_with

  -- the time is T
  time_with : 13 ≤ length s → T < 2 ^ 32 → time_field (with_time s T) ≡ T
  unfolding with_time
  time_with header h = big_stored 4 T s 9 header h

  -- and every number before it and after it is as it was
  tolerance_with : tolerance_field (with_time s T) ≡ tolerance_field s
  unfolding with_time
  tolerance_with = number_before 4 T s 9 4 5 (omega arith)

  number_with : (width at : ℕ) → 13 ≤ at → big width (with_time s T) at ≡ big width s at
  unfolding with_time
  number_with width at h = number_after_lem 4 T s 9 width at h

  reward_with : (i : ℕ) → reward_field (with_time s T) i ≡ reward_field s i
  reward_with i = rw (states_with, distributions_with) (number_with 4 _ (omega arith))

  rate_with : (i j : ℕ) → rate_field (with_time s T) i j ≡ rate_field s i j
  rate_with i j = rw (states_with, distributions_with) (number_with 4 _ (omega arith))

  -- its model is that of s with the time T
  pub model_with : 13 ≤ length s → T < 2 ^ 32 → model_of (with_time s T) ≡ at_time (model_of s) T
  model_with header h =
      λ i.
      record {
        states = states_with i;
        highest = highest_same s (with_time s T) frame_with i;
        tolerance = tolerance_with i;
        time = time_with header h i;
        distributions = distributions_with i;
        start = λ k. number_with 4 (13 + 4 * k) (omega arith) i;
        reward = λ k. reward_with k i;
        transition = λ j k. rate_with j k i;
      }

-- rows 7 to 11 and 16 pass without a list, with any time but 0, where they pass with the file's time and a list
quantities_at : (m : Model) (times : List ℕ) (T : ℕ) → NoneHold (quantities m times) → 1 ≤ T → NoneHold (quantities (at_time m T) [])
unfolding quantities jump_rate row_sum
quantities_at m times T row low = grind arith

module _ (s times : List ℕ) (levels cells : ℕ) (none : SeriesRows s times levels cells) (f : AcceptedSeries s times levels cells) (k : ℕ) (h : k < length times) where
  abbrev T : ℕ
  T = get_or times k 0

  -- the file with time k
  abbrev run : List ℕ
  run = with_time s T

  header : 13 ≤ length s
  header = omega (arith, f.framed.size)

  within : (1 ≤ T) × (uniform_rate (model_of s) * T ≤ 256000000)
  within = time_within s times levels cells none k h

  T_max : T < 2 ^ 32
  T_max = omega (arith, within.1, mul-le-mul_right T (rate_pos (model_of s)))

  model_run : model_of run ≡ model_at s times k
  model_run = model_with s T header T_max

  few : uniform_rate (model_of run) * time_field run ≤ 256000000
  few = subst (λ (m : Model). uniform_rate m * m.time ≤ 256000000) (sym model_run) (rw (rate_at_lem (model_of s) T) within.1)

  -- is accepted with the cells of a block
  run_accepted : judgement run (block_size s) ≡ accepted tt
  unfolding judgement rows jumps room
  run_accepted =
      all_pass (rows run (block_size s)) tt
      (none_together (framing 1 2 run ++ quantities (model_of run) [] ++ jumps (uniform_rate (model_of run)) (time_field run)) (room (block_size run) (block_size s))
      (none_together (framing 1 2 run ++ quantities (model_of run) []) (jumps (uniform_rate (model_of run)) (time_field run))
      (none_together (framing 1 2 run) (quantities (model_of run) []) (rw (framing_same s run (frame_with s T) 1 2) none.frame) (subst (λ (m : Model). NoneHold (quantities m [])) (sym model_run) (quantities_at (model_of s) times T none.amounts within.0)))
      (le-ltb 256000000 (uniform_rate (model_of run) * time_field run) few, tt))
      (le-ltb (block_size s) (block_size run) (rw (states_with s T, highest_same s run (frame_with s T), distributions_with s T) (le_refl (block_size s))), tt))

module _ (s times levels cells : List ℕ) (passed : series_judgement s times (length levels) (length cells) ≡ accepted tt) (k : ℕ) (h : k < length times) where
  f : AcceptedSeries s times (length levels) (length cells)
  f = accepted_series s times (length levels) (length cells) passed

  pub judged : judgement (with_time s (get_or times k 0)) (block_size s) ≡ accepted tt
  judged = run_accepted s times (length levels) (length cells) (series_rows_lem s times (length levels) (length cells) passed) f k h

  is_model : model_of (with_time s (get_or times k 0)) ≡ model_at s times k
  is_model = model_run s times (length levels) (length cells) (series_rows_lem s times (length levels) (length cells) passed) f k h

  -- level k of the series, whatever is counted
  pub level_in : (n : ℕ) → get_or (levels_after (accepted n) s times levels) k 0 ≡ model_level (model_of (with_time s (get_or times k 0)))
  unfolding levels_after level_at
  level_in n = get_d_over 0 (length times) (level_at s times) levels k h ∙ ap model_level (sym is_model)

  -- block k of the series
  pub block_in : (n : ℕ) → block s (blocks_after (accepted n) s times cells) k ≡ cells_after (accepted (run_of (model_of (with_time s (get_or times k 0))))) (with_time s (get_or times k 0)) (block s cells k)
  unfolding blocks_after cells_after level_at
  block_in n =
      block_is (block_size s) 0 (length times) (λ j. cell (model_at s times j) (level_at s times j)) cells k h f.block_room
      ∙ ap (λ (m : Model). over (block_of m) (cell m (model_level m)) (block s cells k)) (sym is_model)

  -- what is lent of the cells for a block
  pub size : length (block s cells k) ≡ block_size s
  size = length-take-le (block_size s) (drop (k * block_size s) cells) (omega (arith, f.block_room, block_end k (length times) (block_size s) h, length-drop (k * block_size s) cells))

  is_run : (n : ℕ) → IsRun (with_time s (get_or times k 0)) (get_or (levels_after (accepted n) s times levels) k 0) (block s cells k) (block s (blocks_after (accepted n) s times cells) k)
  is_run n =
      let answer = rw (← size) at (outcome_accepted (with_time s (get_or times k 0)) (block_size s) judged) in
      record { same_level = answer ∙ ap (λ (N : ℕ). accepted (run_to (model_of (with_time s (get_or times k 0))) N)) (sym (level_in n)); same_block = rw answer (sym (block_in n)) }

-- document 02's sentence, for every accepted list: each level and block is that of a run
pub series_runs : (s times levels cells : List ℕ) (n : ℕ) → series_judgement s times (length levels) (length cells) ≡ accepted tt → AreRuns (accepted n) s times (levels_after (accepted n) s times levels) cells (blocks_after (accepted n) s times cells)
series_runs s times levels cells n passed k h = is_run s times levels cells passed k h n

-- the outcome of a refused list, and of an accepted one
pub series_refused : (s times : List ℕ) (levels cells k : ℕ) → series_judgement s times levels cells ≡ refused k → series_outcome s times levels cells ≡ refused k
unfolding series_outcome series_judgement
series_refused s times levels cells k e = also_refused (series_rows s times levels cells) (tt {0}) (means_of_all s times) k e

pub series_accepted : (s times : List ℕ) (levels cells : ℕ) → series_judgement s times levels cells ≡ accepted tt → series_outcome s times levels cells ≡ accepted (means_of_all s times)
unfolding series_outcome series_judgement
series_accepted s times levels cells e = also_accepted (series_rows s times levels cells) (tt {0}) tt (means_of_all s times) e

-- row means are answered of an accepted list alone
pub series_judged : (s times : List ℕ) (levels cells n : ℕ) → series_outcome s times levels cells ≡ accepted n → series_judgement s times levels cells ≡ accepted tt
unfolding series_outcome series_judgement
series_judged s times levels cells n e = also_accepted (series_rows s times levels cells) (means_of_all s times) n (tt {0}) e
