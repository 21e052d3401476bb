-- Document 02, S-9, of files: with one reward rate raised, but not past the largest, a file is answered the same, and no cell is left lower; for its own time
-- and for a list of times.
use Rattle.std.specs.Prelude.{ℕ, ◌+◌, ◌*◌, ◌-◌, ◌≤◌, ◌<◌, ◌^◌, ◌≡◌, List, [], ◌++◌, length, get_or, ltb, refl}
use Rattle.std.proofs.Common.{arith, mul-le-mul_right, ◌∙◌, sym, ap, ap₂}
use Rattle.std.proofs.Math.Decide.{dec_lt, ℕ_discrete}
use Rattle.definitions.specs.declared.Run.{Run}
use Rattle.definitions.specs.Sums.{largest, any_above}
use Rattle.definitions.specs.Bytes.{big, bytes_of}
use Rattle.definitions.specs.File.{state_count, distributions, weight_field, rewards_at, reward_field, with_reward, place, row_at, rate_field}
use Rattle.definitions.specs.Chain.{Model, model_of, row_sum, max_reward}
use Rattle.definitions.specs.Rules.{Rows, accepted, misweighted, framing, quantities, listing, last_time, jumps, room, block_size, rows, series_rows, first_held}
use Rattle.definitions.specs.Vectors.{row_means}
use Rattle.definitions.specs.Moment.{cell, run_of, outcome, cells_after}
use Rattle.definitions.specs.Series.{model_at, level_at, means_of_all, series_outcome, levels_after, blocks_after}
use Rattle.definitions.specs.Order.{Raises, NoneLowered, NoBlockLowered}
use Rattle.laws.specs.SumLaws.{sum_same, any_largest, largest_same}
use Rattle.laws.specs.ListLaws.{over_same, over_mono}
use Rattle.laws.specs.ByteLaws.{big_stored, number_before, number_after_lem}
use Rattle.laws.specs.BlockLaws.{blocks_mono}
use Rattle.laws.specs.FrameLaws.{SameFrame, states_same, highest_same, distributions_same, framing_same, frame_stored}
use Rattle.laws.specs.ChainLaws.{reward_le_largest}
use Rattle.laws.specs.Acceptance.{Framed, accepted_file, accepted_series}
use Rattle.laws.specs.MomentLaws.{run_judged}
use Rattle.laws.specs.SeriesLaws.{series_judged}
use Rattle.laws.specs.OrderLaws.{RaisedModel, raised_at, largest_kept, rate_kept, sum_kept, level_kept}
use Rattle.laws.proofs.OrderLaws.{cell_no_lower}

-- two models of which one is raised pass or stop at the same rows
module _ (a b : Model) (e : RaisedModel a b) where
  weighed_kept : misweighted a ≡ misweighted b
  weighed_kept = grind (arith, sum_same)

  any_reward_kept : (k : ℕ) → any_above k a.states a.reward ≡ any_above k b.states b.reward
  unfolding max_reward
  any_reward_kept k = any_largest k a.states a.reward ∙ ap (ltb k) (largest_kept a b e) ∙ sym (any_largest k b.states b.reward)

  any_sum_kept : (k : ℕ) → any_above k a.states (row_sum a) ≡ any_above k b.states (row_sum b)
  any_sum_kept k = grind (arith, any_largest, largest_same, sum_kept)

  quantities_kept : (times : List ℕ) → quantities a times ≡ quantities b times
  unfolding quantities
  quantities_kept times = rw (any_sum_kept 10000000, weighed_kept, any_reward_kept 1000000, any_reward_kept 0, e.tolerance, e.time) refl

-- a file t whose rows 1 to 6 are those of the file s, and whose model is that of s raised
module _ (s t : List ℕ) (frame : framing 1 2 t ≡ framing 1 2 s) (e : RaisedModel (model_of s) (model_of t)) where
  block_kept : block_size t ≡ block_size s
  block_kept = ap₂ ◌*◌ (ap₂ ◌+◌ (sym e.states) (sym e.distributions)) (sym e.highest)

  -- rows 1 to 11 and 16
  first_kept : (times : List ℕ) → framing 1 2 t ++ quantities (model_of t) times ≡ framing 1 2 s ++ quantities (model_of s) times
  first_kept times = ap₂ (λ (p q : Rows). p ++ q) frame (sym (quantities_kept (model_of s) (model_of t) e times))

  rows_kept : (cells : ℕ) → rows t cells ≡ rows s cells
  unfolding rows
  rows_kept cells =
      ap₂ (λ (p q : Rows). p ++ q)
      (ap₂ (λ (p q : Rows). p ++ q) (first_kept []) (ap₂ jumps (sym (rate_kept (model_of s) (model_of t) e)) (sym e.time)))
      (ap (λ (n : ℕ). room n cells) block_kept)

  run_kept : run_of (model_of t) ≡ run_of (model_of s)
  run_kept = grind (arith, level_kept)

  -- it is answered the same, whether s is accepted or not
  pub outcome_kept : (cells : ℕ) → outcome t cells ≡ outcome s cells
  unfolding outcome
  outcome_kept cells = ap₂ (λ (p : Rows) (run : Run). first_held p run) (rows_kept cells) run_kept

  -- and of the same cells leaves none lower
  pub cells_no_lower : (run : Run) (cells : List ℕ) (k : ℕ) → get_or (cells_after (accepted run) s cells) k 0 ≤ get_or (cells_after (accepted run) t cells) k 0
  unfolding cells_after
  cells_no_lower run cells = rw block_kept (over_mono (block_size s) (cell (model_of s) run.level) (cell (model_of t) run.level) cells (cell_no_lower (model_of s) (model_of t) e run.level))

  -- for a list of times: each level is the same
  at_time_lem : (times : List ℕ) (k : ℕ) → RaisedModel (model_at s times k) (model_at t times k)
  at_time_lem times k = raised_at (model_of s) (model_of t) e (get_or times k 0)

  level_at_kept : (times : List ℕ) (k : ℕ) → level_at s times k ≡ level_at t times k
  unfolding level_at
  level_at_kept times k = level_kept (model_at s times k) (model_at t times k) (at_time_lem times k)

  pub levels_kept : (n : ℕ) (times levels : List ℕ) → levels_after (accepted n) t times levels ≡ levels_after (accepted n) s times levels
  unfolding levels_after
  levels_kept n times levels = sym (over_same (length times) (level_at s times) (level_at t times) levels (λ k h. level_at_kept times k))

  -- so is the answer
  series_rows_kept : (times : List ℕ) (levels cells : ℕ) → series_rows t times levels cells ≡ series_rows s times levels cells
  unfolding series_rows
  series_rows_kept times levels cells =
      let E = sym (rate_kept (model_of s) (model_of t) e) in
      ap (λ (p : Rows). p ++ room (length times) levels)
      (ap₂ (λ (p q : Rows). p ++ q)
      (ap₂ (λ (p q : Rows). p ++ listing times ++ q) (first_kept times) (ap (λ (x : ℕ). jumps x (last_time times)) E))
      (ap (λ (n : ℕ). room (length times * n) cells) block_kept))

  means_kept : (times : List ℕ) → means_of_all t times ≡ means_of_all s times
  means_kept times =
      let levels : largest (length times) (level_at s times) ≡ largest (length times) (level_at t times) = largest_same (length times) (level_at s times) (level_at t times) (λ k h. level_at_kept times k) in
      sym (λ i. row_means (levels i) (e.states i) (e.highest i))

  pub series_kept : (times : List ℕ) (levels cells : ℕ) → series_outcome t times levels cells ≡ series_outcome s times levels cells
  unfolding series_outcome
  series_kept times levels cells = ap₂ (λ (p : Rows) (n : ℕ). first_held p n) (series_rows_kept times levels cells) (means_kept times)

  -- and no cell of a block is left lower
  pub blocks_no_lower : (n : ℕ) (times cells : List ℕ) (k : ℕ) → get_or (blocks_after (accepted n) s times cells) k 0 ≤ get_or (blocks_after (accepted n) t times cells) k 0
  unfolding blocks_after
  blocks_no_lower n times cells =
      rw block_kept
      (blocks_mono (block_size s) (length times) (λ k. cell (model_at s times k) (level_at s times k)) (λ k. cell (model_at t times k) (level_at t times k)) cells
      (λ k c h b. rw (← level_at_kept times k) (cell_no_lower (model_at s times k) (model_at t times k) (at_time_lem times k) (level_at s times k) c b)))

-- the file s with the reward rate x for state i
module _ (s : List ℕ) (i x : ℕ) where
  abbrev at : ℕ
  at = rewards_at s + 4 * i

  -- the header is as it was
  pub frame_kept : SameFrame s (with_reward s i x)
  unfolding with_reward
  frame_kept = frame_stored s at (bytes_of 4 x) (omega arith)

  number_kept : (k : ℕ) → k + 4 ≤ 13 → big 4 (with_reward s i x) k ≡ big 4 s k
  unfolding with_reward
  number_kept k h = number_before 4 x s at 4 k (omega arith)

  states_kept : state_count (with_reward s i x) ≡ state_count s
  states_kept = states_same s (with_reward s i x) frame_kept

  rewards_kept : rewards_at (with_reward s i x) ≡ rewards_at s
  rewards_kept = rw (states_kept, distributions_same s (with_reward s i x) frame_kept) refl

  -- the weights stand before the rewards
  weight_kept : (j : ℕ) → j < distributions s * state_count s → weight_field s j ≡ weight_field (with_reward s i x) j
  unfolding with_reward
  weight_kept j h = sym (number_before 4 x s at 4 (13 + 4 * j) (omega arith))

  -- the reward of another state stands before x, or after it
  reward_kept : (j : ℕ) → (j ≡ i → ⊥) → reward_field (with_reward s i x) j ≡ reward_field s j
  unfolding with_reward
  reward_kept j other =
      ap (λ (k : ℕ). big 4 (with_reward s i x) (k + 4 * j)) rewards_kept
      ∙ elim (dec_lt j i) [ yes before ↦ number_before 4 x s at 4 (rewards_at s + 4 * j) (omega arith) | no after ↦ number_after_lem 4 x s at 4 (rewards_at s + 4 * j) (omega (arith, after, other)) ]

  -- that of state i is x, where the bytes are there and x fits them
  reward_is : at + 4 ≤ length s → x < 2 ^ 32 → reward_field (with_reward s i x) i ≡ x
  unfolding with_reward
  reward_is inside fits = ap (λ (k : ℕ). big 4 (with_reward s i x) (k + 4 * i)) rewards_kept ∙ big_stored 4 x s at inside fits

  -- the rates stand after the rewards of all states
  rate_kept_at : i < state_count s → (j k : ℕ) → rate_field s j k ≡ rate_field (with_reward s i x) j k
  unfolding with_reward
  rate_kept_at l j k =
      sym
      (ap (λ (M : ℕ). big 4 (with_reward s i x) (rewards_at (with_reward s i x) + 4 * M + 4 * (M - 1) * j + 4 * place j k)) states_kept
      ∙ ap (λ (p : ℕ). big 4 (with_reward s i x) (p + 4 * state_count s + 4 * (state_count s - 1) * j + 4 * place j k)) rewards_kept
      ∙ number_after_lem 4 x s at 4 (row_at s j + 4 * place j k) (omega arith))

  -- so, with a rate from its own to the largest, the model of a framed file is raised
  pub file_raised : Framed s → Raises s i x → x < 2 ^ 32 → RaisedModel (model_of s) (model_of (with_reward s i x))
  file_raised framed raises fits =
      let inside : at + 4 ≤ length s = omega (arith, framed.size, raises.state, mul-le-mul_right (state_count s) framed.states_min) in
      record {
        states = sym states_kept;
        highest = sym (highest_same s (with_reward s i x) frame_kept);
        tolerance = sym (number_kept 5 (omega arith));
        time = sym (number_kept 9 (omega arith));
        distributions = sym (distributions_same s (with_reward s i x) frame_kept);
        start = λ some j l. weight_kept j (omega (arith, l, mul-le-mul_right (state_count s) some));
        no_lower = λ j l. elim (ℕ_discrete j i) [ yes same ↦ rw (same, reward_is inside fits) raises.from | no other ↦ omega (arith, reward_kept j other) ];
        not_past = λ j l. elim (ℕ_discrete j i) [ yes same ↦ rw (same, reward_is inside fits) raises.to | no other ↦ omega (arith, reward_kept j other, reward_le_largest (model_of s) j l) ];
        transition = λ j k lj lk other. rate_kept_at raises.state j k;
      }

-- of an accepted file, and of one accepted with a list of times: raising one reward rate lowers no cell
pub none_lowered : (s cells : List ℕ) (run : Run) → outcome s (length cells) ≡ accepted run → NoneLowered (accepted run) s cells (cells_after (accepted run) s cells)
none_lowered s cells run e i x raises =
    let f = (accepted_file s (length cells) (run_judged s (length cells) run e)).model in
    let fits : x < 2 ^ 32 = omega (arith, raises.to, f.limits.rewards_max) in
    let frame = framing_same s (with_reward s i x) (frame_kept s i x) 1 2 in
    let raised = file_raised s i x f.framed raises fits in
    record { same_run = outcome_kept s (with_reward s i x) frame raised (length cells) ∙ e; no_lower = cells_no_lower s (with_reward s i x) frame raised run cells }

pub no_block_lowered : (s times levels cells : List ℕ) (n : ℕ) → series_outcome s times (length levels) (length cells) ≡ accepted n → NoBlockLowered (accepted n) s times levels (levels_after (accepted n) s times levels) cells (blocks_after (accepted n) s times cells)
unfolding max_reward
no_block_lowered s times levels cells n e i x raises =
    let f = accepted_series s times (length levels) (length cells) (series_judged s times (length levels) (length cells) n e) in
    let t : List ℕ = with_reward s i x in
    let fits : x < 2 ^ 32 = omega (arith, raises.to, (f.limits 0 f.count_min).rewards_max) in
    let frame = framing_same s (with_reward s i x) (frame_kept s i x) 1 2 in
    let raised = file_raised s i x f.framed raises fits in
    record {
      same_count = series_kept s t frame raised times (length levels) (length cells) ∙ e;
      same_levels = levels_kept s t frame raised n times levels;
      no_lower = blocks_no_lower s t frame raised n times cells;
    }
