-- The rows of weights, and that the sums and their quotients are the weighted means.
use Rattle.std.specs.Prelude.{List, ◌≡◌, ℕ, suc, ◌+◌, ◌*◌, ◌/◌, ◌%◌, ◌≤◌, ◌<◌, min, length, get_or, take}
use Rattle.std.proofs.Common.{sym, ap, ◌∙◌, ap₂, length-take-le, get_or-take, get_or-drop, arith}
use Rattle.std.proofs.Math.Decide.{dec_lt}
use Rattle.definitions.specs.declared.Sizes.{Sizes}
use Rattle.definitions.specs.Sums.{blocks}
use Rattle.definitions.specs.Chain.{Chain, Listing, arrays}
use Rattle.definitions.specs.Vectors.{U}
use Rattle.definitions.specs.Weights.{weight}
use Rattle.definitions.specs.Moment.{term, weighted, last_quotient, weighted_mean}
use Rattle.laws.specs.SumLaws.{sum_same, sum_constant, le_largest, largest_le}
use Rattle.laws.specs.ListLaws.{length_firsts, get_d_firsts, length_over, get_d_over}
use Rattle.laws.specs.StoredLaws.{length_stored, get_d_stored}
use Rattle.laws.specs.BlockLaws.{blocks_same, blocks_again}
use Rattle.laws.specs.VectorLaws.{U_bound}
use Rattle.laws.specs.WeightLaws.{weight_max, weight_sum_min, weight_sum_max}
use Rattle.laws.specs.LevelLaws.{LEVELS, level_mode}
use Rattle.laws.proofs.LevelLaws.{level_max}
use Rattle.laws.specs.MomentLaws.{state_of_cell, weighted_max, last_none}
use Rattle.vectors.specs.Ready.{Ready}
use Rattle.means.specs.Running.{row_from, part_sum, part_sums, Topmost, Summable, AllDivisible}
use Rattle.means.specs.RunningLaws.{in_states, past_states, length_sums, sums_at}
use Rattle.means.specs.Solving.{Truncatable, level_of, total_of, weight_row, weight_rows, Truncations, cell_mean, means_of, Solvable}

module _ (xs : List ℕ) (ε : ℕ) (g : Truncatable xs ε) where
  -- a level is an index of its row
  pub short : (k : ℕ) → k < length xs → level_of xs ε k < LEVELS
  short k h = level_max (get_or xs k 0) ε (g.jumps_max k h) g.tolerance_pos

  -- a row holds its weights
  row_fits : (k : ℕ) → k < length xs → length (weight_row xs ε k) ≤ LEVELS
  row_fits k h = omega (arith, length_firsts (level_of xs ε k + 1) (weight (get_or xs k 0)), short k h)

  row_holds : (w : List ℕ) → length xs * LEVELS ≤ length w → (k n : ℕ) → k < length xs → n ≤ level_of xs ε k → get_or (row_from (weight_rows xs ε w) k) n 0 ≡ weight (get_or xs k 0) n
  row_holds w room k n h l =
      get_or-drop (k * LEVELS) (weight_rows xs ε w) n 0
      ∙ get_d_stored (weight_row xs ε) LEVELS w (length xs) row_fits k n room h (omega (arith, length_firsts (level_of xs ε k + 1) (weight (get_or xs k 0))))
      ∙ get_d_firsts 0 (level_of xs ε k + 1) (weight (get_or xs k 0)) n (omega arith)

module _ (z : Sizes) (lists : Listing) (f xs : List ℕ) (ε : ℕ) (ready : Ready z lists f) (g : Solvable z xs ε) (top : ℕ) (before levels totals₀ totals w₀ w : List ℕ) (t : Truncations xs ε top before levels totals₀ totals w₀ w) (held : length xs ≤ length before) (room : length xs * LEVELS ≤ length w₀) where
  abbrev ch : Chain
  ch = arrays z lists f

  abbrev R : ℕ
  R = z.highest

  -- the cells of the states, and of a whole block
  abbrev D : ℕ
  D = z.states * z.highest

  abbrev B : ℕ
  B = z.block

  -- the levels that are used
  abbrev used : List ℕ
  used = take (length xs) levels

  count_used : length used ≡ length xs
  count_used = length-take-le (length xs) levels (omega (arith, held, ap length t.are_levels, length_over (length xs) (level_of xs ε) before held))

  level_in : (k : ℕ) → k < length xs → get_or used k 0 ≡ level_of xs ε k
  level_in k h =
      get_or-take (length xs) levels k 0 h
      ∙ ap (λ (l : List ℕ). get_or l k 0) t.are_levels
      ∙ get_d_over 0 (length xs) (level_of xs ε) before k h

  level_short : (k : ℕ) → k < length xs → level_of xs ε k < LEVELS
  level_short k h = short xs ε g.truncatable k h

  weight_in : (k n : ℕ) → k < length xs → n ≤ level_of xs ε k → get_or (row_from w k) n 0 ≡ weight (get_or xs k 0) n
  weight_in k n h l = ap (λ (x : List ℕ). get_or (row_from x k) n 0) t.are_weights ∙ row_holds xs ε g.truncatable w₀ room k n h l

  pub topmost : Topmost top used
  topmost =
      record {
        above = λ k h. omega (arith, level_in k (omega (arith, h, count_used)), t.is_largest, le_largest (length xs) (level_of xs ε) k (omega (arith, h, count_used)));
        largest_max = omega (arith, t.is_largest, largest_le (length xs) 563 (level_of xs ε) (λ k h. omega (arith, level_short k h)));
      }

  pub summable : Summable z used w
  summable =
      record {
        fitting = g.fitting;
        highest_pos = g.highest_pos;
        highest_max = g.highest_max;
        count_max = omega (arith, count_used, g.truncatable.count_max);
        rows = rw count_used (omega (arith, room, ap length t.are_weights, length_stored (weight_row xs ε) LEVELS w₀ (length xs)));
        level_max = λ k h. let b : k < length xs = omega (arith, h, count_used) in omega (arith, level_in k b, level_short k b);
        weight_max =
            λ k n h l.
            let b : k < length xs = omega (arith, h, count_used) in
            rw (weight_in k n b (omega (arith, l, level_in k b))) (weight_max (get_or xs k 0) n);
      }

  -- the sums of all times, in the cells
  module _ (cells : List ℕ) (enough : length xs * B ≤ length cells) where
    pub used_room : length used * B ≤ length cells
    used_room = rw count_used enough

    abbrev sums : List ℕ
    sums = part_sums ch B used w R (top + 1) cells

    -- in as many blocks as there are X
    spread : sums ≡ blocks B (length xs) (λ k. part_sum ch (row_from w k) R (min (top + 1) (get_or used k 0 + 1))) cells
    unfolding part_sums
    spread = ap (λ (n : ℕ). blocks B n (λ k. part_sum ch (row_from w k) R (min (top + 1) (get_or used k 0 + 1))) cells) count_used

    -- A of the state and the r of cell e, with X number k
    abbrev A : ℕ → ℕ → ℕ
    A k e = weighted (get_or xs k 0) (λ n. U ch n (e % R + 1) (e / R)) (level_of xs ε k)

    all_terms : (k e : ℕ) → k < length xs → e < B → get_or sums (k * B + e) 0 ≡ part_sum ch (row_from w k) R (suc (level_of xs ε k)) e
    all_terms k e hk he =
        let used_k : k < length used = omega (arith, hk, count_used) in
        let terms : min (top + 1) (get_or used k 0 + 1) ≡ suc (level_of xs ε k) = omega (arith, level_in k hk, topmost.above k used_k) in
        sums_at ch B used w R cells used_room (top + 1) k e used_k he
        ∙ ap (λ (n : ℕ). part_sum ch (row_from w k) R n e) terms

    -- each sum is A in the cells of the states, and 0 past them
    sum_is : (k e : ℕ) → k < length xs → e < D → get_or sums (k * B + e) 0 ≡ A k e
    unfolding part_sum weighted
    sum_is k e hk he =
        all_terms k e hk (omega (arith, he, g.fitting.states_within))
        ∙ sum_same (suc (level_of xs ε k)) _ (λ j. term (weight (get_or xs k 0) j) (U ch j (e % R + 1) (e / R)))
        (λ j b. in_states D e (term (get_or (row_from w k) j 0) (U ch j (e % R + 1) (e / R))) he ∙ ap (λ (v : ℕ). term v (U ch j (e % R + 1) (e / R))) (weight_in k j hk (omega arith)))

    no_sum : (k e : ℕ) → k < length xs → e < B → D ≤ e → get_or sums (k * B + e) 0 ≡ 0
    unfolding part_sum
    no_sum k e hk he past =
        all_terms k e hk he
        ∙ sum_same (suc (level_of xs ε k)) _ (λ j. 0) (λ j b. past_states D e (term (get_or (row_from w k) j 0) (U ch j (e % R + 1) (e / R))) past)
        ∙ sum_constant (suc (level_of xs ε k)) 0
        ∙ omega arith

    sum_max : (k e : ℕ) → e < D → weighted (get_or xs k 0) (λ n. U ch n (e % R + 1) (e / R)) (level_of xs ε k) ≤ total_of xs ε k
    sum_max k e he =
        weighted_max (get_or xs k 0) (level_of xs ε k) (λ n. U ch n (e % R + 1) (e / R))
        (λ n h. U_bound ch ready.stochastic n (e % R + 1) (e / R) (state_of_cell e z.states R he))

    -- they may be divided by S(N), of which the totals hold one for each X
    module _ (many : length xs ≤ length totals) where
      count_totals : length (take (length xs) totals) ≡ length xs
      count_totals = length-take-le (length xs) totals many

      total_in : (k : ℕ) → k < length xs → get_or (take (length xs) totals) k 0 ≡ total_of xs ε k
      total_in k h = get_or-take (length xs) totals k 0 h ∙ ap (λ (l : List ℕ). get_or l k 0) t.are_totals ∙ get_d_over 0 (length xs) (total_of xs ε) totals₀ k h

      -- no sum is above S(N), and S(N) is above 0
      below_total : (k e : ℕ) → k < length xs → e < B → get_or sums (k * B + e) 0 ≤ total_of xs ε k
      below_total k e hk he =
          elim (dec_lt e D) [
            | yes h ↦ omega (arith, sum_is k e hk h, sum_max k e h)
            | no q ↦ omega (arith, no_sum k e hk he (omega (arith, q)))
          ]

      total_pos : (k : ℕ) → k < length xs → 0 < total_of xs ε k
      total_pos k b = omega (arith, weight_sum_min (get_or xs k 0) (level_of xs ε k) (level_mode (get_or xs k 0) ε (g.truncatable.jumps_max k b) g.truncatable.tolerance_pos))

      pub divisible : (a : List ℕ) → a ≡ sums → AllDivisible a (take (length xs) totals) B
      divisible a ea =
          rw ea
          (record {
            enough = rw count_totals (omega (arith, enough, length_sums ch B used w R cells used_room (top + 1)));
            count_max = omega (arith, count_totals, g.truncatable.count_max);
            size_max = g.fitting.block_max;
            total_pos = λ k h. let b : k < length xs = omega (arith, h, count_totals) in omega (arith, total_in k b, total_pos k b);
            total_max = λ k h. let b : k < length xs = omega (arith, h, count_totals) in omega (arith, total_in k b, weight_sum_max (get_or xs k 0) (level_of xs ε k), level_short k b);
            below = λ k e h he. let b : k < length xs = omega (arith, h, count_totals) in omega (arith, below_total k e b he, total_in k b);
          })

      -- a quotient is the cell's mean
      mean_is : (k e : ℕ) → k < length xs → e < B → last_quotient (get_or sums (k * B + e) 0) (total_of xs ε k) ≡ means_of ch xs ε R k e
      unfolding cell_mean weighted_mean
      mean_is k e hk he =
          elim (dec_lt e D) [
            | yes h ↦ ap (λ (a : ℕ). last_quotient a (total_of xs ε k)) (sum_is k e hk h) ∙ sym (in_states D e (last_quotient (A k e) (total_of xs ε k)) h)
            | no q ↦
                let past : D ≤ e = omega (arith, q) in
                ap (λ (a : ℕ). last_quotient a (total_of xs ε k)) (no_sum k e hk he past)
                ∙ last_none (total_of xs ε k) (total_pos k hk)
                ∙ sym (past_states D e (last_quotient (A k e) (total_of xs ε k)) past)
          ]

      -- and their quotients are the cells' means
      pub means_are : (a : List ℕ) → a ≡ sums → blocks B (length (take (length xs) totals)) (λ k e. last_quotient (get_or a (k * B + e) 0) (get_or (take (length xs) totals) k 0)) a ≡ blocks B (length xs) (means_of ch xs ε R) cells
      means_are a ea =
          rw count_totals
          (blocks_again B 0 (length xs) _ _ cells a enough (ea ∙ spread)
          ∙ blocks_same B (length xs) _ (means_of ch xs ε R) cells (λ k e hk he. ap₂ last_quotient (ap (λ (l : List ℕ). get_or l (k * B + e) 0) ea) (total_in k hk) ∙ mean_is k e hk he))
