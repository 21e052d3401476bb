-- The solution of what was read of an accepted file and list is the file's levels and blocks.
use Rattle.std.specs.Prelude.{List, [], ◌∷◌, ◌≡◌, refl, ltb, length, ℕ, ◌+◌, ◌*◌, ◌-◌, ◌/◌, ◌%◌, ◌≤◌, ◌<◌, get_or}
use Rattle.std.proofs.Common.{sym, ap, ap₂, ◌∙◌, arith, lt-ltb, le-ltb, mul-le-mul_right}
use Rattle.std.proofs.Math.Decide.{dec_lt}
use Rattle.definitions.specs.declared.Sizes.{Sizes}
use Rattle.definitions.specs.Sums.{largest, over, blocks, pick}
use Rattle.definitions.specs.File.{state_count, highest_moment, time_field, distributions, weight_field}
use Rattle.definitions.specs.Chain.{Model, Chain, Listing, model_of, at_time, arrays, chain_of, uniform_rate, jump_millionths, padded, sizes_of}
use Rattle.definitions.specs.Vectors.{U, row_means}
use Rattle.definitions.specs.Level.{level}
use Rattle.definitions.specs.Rules.{accepted, block_size}
use Rattle.definitions.specs.Moment.{weighted_mean, moment, start_figure, figure_of, cell, model_level, means_to, run_of, cells_after}
use Rattle.definitions.specs.Series.{model_at, level_at, means_of_all, levels_after, blocks_after}
use Rattle.laws.specs.Rounding.{row_of_place, place_in_row, place_below}
use Rattle.laws.specs.SumLaws.{sum_same, largest_same}
use Rattle.laws.specs.ArrayLaws.{entry_of}
use Rattle.laws.specs.ListLaws.{get_d_over, over_same}
use Rattle.laws.specs.BlockLaws.{length_blocks, get_d_blocks, blocks_same, blocks_again, blocks_kept, blocks_one}
use Rattle.laws.specs.ChainLaws.{distributions_max, SameChain, get_d_padded, rate_at_lem, chain_at}
use Rattle.laws.specs.VectorLaws.{U_same}
use Rattle.laws.specs.ArrowLaws.{arrays_same}
use Rattle.laws.specs.MomentLaws.{weighted_mean_same, state_of_cell, figure_of_state, figure_of_start}
use Rattle.laws.specs.StartLaws.{mean_same}
use Rattle.laws.proofs.Demand3.{moment_max}
use Rattle.laws.specs.Acceptance.{WithinLimits, AcceptedSeries, block_max}
use Rattle.vectors.specs.Ready.{Ready}
use Rattle.vectors.specs.ModelLaws.{held_ready}
use Rattle.start.specs.Figures.{start_cell, Distribution, AllMoments}
use Rattle.means.specs.RunningLaws.{in_states}
use Rattle.means.specs.Solving.{level_of, cell_mean, means_of, Solvable}
use Rattle.moments.specs.Filling.{ReadAs, started, Startable}

-- in a state's cell, the mean from the arrays of a model's chain is the model's moment, at any time
cell_at : (m : Model) (ch : Chain) → SameChain ch (chain_of m) → (T N e : ℕ) → e < m.states * m.highest → cell_mean ch (uniform_rate m * T) m.highest N e ≡ moment (at_time m T) N (e % m.highest + 1) (e / m.highest)
unfolding cell_mean moment jump_millionths
cell_at m ch same T N e b =
    in_states (ch.states * m.highest) e _ (rw same.states b)
    ∙ weighted_mean_same (uniform_rate m * T) N _ _
    (λ n low. U_same ch (chain_of m) same n (e % m.highest + 1) (e / m.highest) (state_of_cell e ch.states m.highest (rw same.states b)))
    ∙ ap₂ (λ (E : ℕ) (ch : Chain). weighted_mean (E * T) (λ n. U ch n (e % m.highest + 1) (e / m.highest)) N) (sym (rate_at_lem m T)) (sym (chain_at m T))

-- what was read of an accepted file and list
module _ (s times : List ℕ) (levels cells : ℕ) (g : AcceptedSeries s times levels cells) (z : Sizes) (a : Listing) (f xs : List ℕ) (ε : ℕ) (e : ReadAs (model_of s) times z a f xs ε) where
  abbrev m : Model
  m = model_of s

  -- the limits that all times share
  first : WithinLimits (model_at s times 0)
  first = g.limits 0 (omega (arith, g.count_min))

  is_jumps : (k : ℕ) → k < length times → get_or xs k 0 ≡ jump_millionths (model_at s times k)
  unfolding jump_millionths
  is_jumps k h = e.jumps k h ∙ ap (λ (E : ℕ). E * get_or times k 0) (sym (rate_at_lem m (get_or times k 0)))

  -- the arrays are ready for the steps
  pub ready : Ready z a f
  ready = held_ready m (get_or times 0 0) e.held first

  -- can be solved
  pub solvable : Solvable z xs ε
  solvable =
      record {
        fitting = rw e.held.sizes (record { states_within = omega arith; block_max = block_max s g.framed first.highest_max });
        highest_pos = rw e.held.sizes first.highest_pos;
        highest_max = rw e.held.sizes first.highest_max;
        truncatable = record {
          count_max = omega (arith, e.count, g.count_max);
          jumps_max = λ k h. let b : k < length times = omega (arith, h, e.count) in rw (is_jumps k b) (g.limits k b).jumps_max;
          tolerance_pos = rw e.tolerance first.tolerance_pos;
          tolerance_max = rw e.tolerance first.tolerance_max;
        };
      }

  -- in the cells that are lent
  pub block_room : length xs * z.block ≤ cells
  block_room = rw (e.count, e.held.sizes) g.block_room

  level_is : (k : ℕ) → k < length times → level_of xs ε k ≡ level_at s times k
  unfolding level_at model_level
  level_is k h = ap₂ level (is_jumps k h) e.tolerance

  -- with the file's levels
  pub levels_are : (n : ℕ) (before : List ℕ) → over (length xs) (level_of xs ε) before ≡ levels_after (accepted n) s times before
  unfolding levels_after
  levels_are n before = rw e.count (over_same (length times) (level_of xs ε) (level_at s times) before level_is)

  -- and row means
  pub counted : row_means (largest (length xs) (level_of xs ε)) z.states z.highest ≡ means_of_all s times
  counted = rw (e.count, e.held.sizes) (ap (λ (N : ℕ). row_means N m.states m.highest) (largest_same (length times) (level_of xs ε) (level_at s times) level_is))

  -- and moments, in the cells of the states
  module _ (before : List ℕ) (room : length times * block_size s ≤ length before) (now : List ℕ) (solved : now ≡ blocks z.block (length xs) (means_of (arrays z a f) xs ε z.highest) before) where
    moment_in : (k i : ℕ) → k < length times → i < m.states * m.highest → get_or now (k * block_size s + i) 0 ≡ moment (model_at s times k) (level_at s times k) (i % m.highest + 1) (i / m.highest)
    moment_in k i hk hi =
        ap (λ (x : List ℕ). get_or x (k * block_size s + i) 0) (rw (e.count, e.held.sizes) at solved)
        ∙ get_d_blocks (block_size s) 0 (length times) _ before k i hk (omega arith)
        ∙ ap₂ (λ (X N : ℕ). cell_mean (arrays (sizes_of m) a f) X m.highest N i) (e.jumps k hk) (level_is k hk)
        ∙ cell_at m (arrays (sizes_of m) a f) (arrays_same m a e.held.rows f e.held.rewards first.states_max) (get_or times k 0) (level_at s times k) i hi

    -- ready for the start figures
    pub startable : Startable s z (length times) now
    startable =
        record {
          framed = g.framed;
          highest_max = first.highest_max;
          full = first.weights_sum;
          sizes = e.held.sizes;
          count_max = g.count_max;
          room = rw e.held.sizes (omega (arith, room, ap length (rw (e.count, e.held.sizes) at solved), length_blocks (block_size s) (length times) (means_of (arrays (sizes_of m) a f) xs ε m.highest) before room));
          most = rw e.held.sizes (λ k i hk hi. rw (moment_in k i hk hi) (unfold level_at in moment_max (model_at s times k) (g.limits k hk) (i % m.highest + 1) (i / m.highest) (state_of_cell i m.states m.highest hi)));
        }

    -- a cell with its start figure is the file's
    cell_is : (k i : ℕ) → k < length times → i < block_size s → start_cell m.start m.states m.highest (λ j. get_or now (k * block_size s + j) 0) i ≡ cell (model_at s times k) (level_at s times k) i
    unfolding cell start_figure
    cell_is k i hk hi =
        elim (dec_lt i (m.states * m.highest)) [
          | yes h ↦
              rw (lt-ltb i (m.states * m.highest) h) (moment_in k i hk h)
              ∙ sym (figure_of_state (model_at s times k) (level_at s times k) (i % m.highest + 1) (i / m.highest) (state_of_cell i m.states m.highest h))
          | no q ↦ past (omega (arith, q))
        ]
      where
        past : m.states * m.highest ≤ i → start_cell m.start m.states m.highest (λ j. get_or now (k * block_size s + j) 0) i ≡ figure_of (model_at s times k) (level_at s times k) (i % m.highest + 1) (i / m.highest)
        past low =
            let M = m.states in
            let R = m.highest in
            let r : ℕ = i - M * R in
            let small : r < R = omega (arith, low, hi, mul-le-mul_right R (distributions_max s)) in
            let split : i ≡ M * R + r = omega (arith, low) in
            let row : i / R ≡ M = ap (λ (n : ℕ). n / R) split ∙ row_of_place M r R small in
            let place : i % R ≡ r = ap (λ (n : ℕ). n % R) split ∙ place_in_row M r R small in
            rw (le-ltb i (M * R) low)
            (mean_same M m.start m.start _ (moment (model_at s times k) (level_at s times k) (i % R + 1)) (λ j hj. refl)
            (λ j hj. moment_in k (j * R + r) hk (place_below j r M R hj small) ∙ ap₂ (λ (a b : ℕ). moment (model_at s times k) (level_at s times k) (a + 1) b) (place_in_row j r R small ∙ sym place) (row_of_place j r R small))
            ∙ sym (figure_of_start (model_at s times k) (level_at s times k) (i % R + 1) (i / R) (omega (arith, row))))

    -- and so are the blocks
    pub blocks_are : (n : ℕ) → started m (block_size s) (length times) now ≡ blocks_after (accepted n) s times before
    unfolding started blocks_after
    blocks_are n =
        blocks_again (block_size s) 0 (length times) _ _ before now room (rw (e.count, e.held.sizes) at solved)
        ∙ blocks_same (block_size s) (length times) _ _ before cell_is

-- the start figures, of a file that holds a starting distribution, and of one that does not
module _ (s : List ℕ) (z : Sizes) (count : ℕ) (cells : List ℕ) (g : Startable s z count cells) where
  abbrev M : ℕ
  M = state_count s

  abbrev R : ℕ
  R = highest_moment s

  -- without one a block has no cells past the moments
  pub none_started : distributions s ≡ 0 → cells ≡ started (model_of s) z.block count cells
  unfolding started
  none_started none =
      sym
      (blocks_kept z.block 0 count _ cells g.room
      (λ k e hk he. let state : e < M * R = omega (arith, he, ap (λ (x : Sizes). x.block) g.sizes, ap (λ (d : ℕ). d * R) none) in rw (lt-ltb e (M * R) state) refl))

  module _ (one : distributions s ≡ 1) (weights : List ℕ) (read : weights ≡ padded M (weight_field s)) where
    weight_in : (i : ℕ) → i < M → get_or weights i 0 ≡ weight_field s i
    weight_in i l = rw read (get_d_padded M (weight_field s) i g.framed.states_max l)

    pub distribution : Distribution weights z.states
    distribution = rw g.sizes (record { states_max = g.framed.states_max; full = sum_same M (entry_of weights) (weight_field s) weight_in ∙ g.full (omega (arith, one)) })

    -- with one it has R cells past them
    whole : z.block ≡ (M + 1) * R
    whole = ap (λ (x : Sizes). x.block) g.sizes ∙ ap (λ (d : ℕ). (M + d) * R) one

    pub all_moments : AllMoments cells z.states z.highest count
    all_moments =
        rw g.sizes
        (record {
          highest_max = g.highest_max;
          count_max = g.count_max;
          room = rw whole at g.room;
          most = λ k e hk he. rw whole at (g.most k e hk (rw g.sizes he));
        })

    pub some_started : blocks ((z.states + 1) * z.highest) count (λ k. start_cell (entry_of weights) z.states z.highest (λ e. get_or cells (k * ((z.states + 1) * z.highest) + e) 0)) cells ≡ started (model_of s) z.block count cells
    unfolding started
    some_started =
        rw (whole, g.sizes)
        (blocks_same ((M + 1) * R) count _ _ cells
        (λ k e hk he. ap (λ (x : ℕ). pick (ltb e (M * R)) (get_or cells (k * ((M + 1) * R) + e) 0) x) (mean_same M (entry_of weights) (weight_field s) _ _ weight_in (λ i l. refl))))

-- the file's own time as a list of one: level 0 is the file's, the row means are those of its run, and the one block has its moments
module _ (s : List ℕ) where
  pub own_level : (n : ℕ) (before : List ℕ) → get_or (levels_after (accepted n) s (time_field s ∷ []) before) 0 0 ≡ model_level (model_of s)
  unfolding levels_after level_at
  own_level n before = get_d_over 0 1 (level_at s (time_field s ∷ [])) before 0 (omega arith)

  pub own_means : means_of_all s (time_field s ∷ []) ≡ means_to (model_of s) (model_level (model_of s))
  unfolding largest level_at
  own_means = ap (means_to (model_of s)) (omega arith)

  pub own_block : (n : ℕ) (before : List ℕ) → blocks_after (accepted n) s (time_field s ∷ []) before ≡ cells_after (accepted (run_of (model_of s))) s before
  unfolding blocks_after cells_after level_at
  own_block n before = blocks_one (block_size s) (λ k. cell (model_at s (time_field s ∷ []) k) (level_at s (time_field s ∷ []) k)) before
