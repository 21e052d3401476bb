-- Document 02, S-9: no start figure rises with r, and no row of a block; and a model with no lower reward rates, the largest being the same, has no lower figures.
-- Of every model, at every level.
use Rattle.std.specs.Prelude.{ℕ, suc, ◌+◌, ◌-◌, ◌/◌, ◌%◌, ◌≤◌, ◌<◌, ◌≡◌, List, length, get_or}
use Rattle.std.proofs.Common.{arith, le_refl, add-one, sym, ◌∙◌, ap}
use Rattle.std.proofs.Math.Decide.{dec_lt}
use Rattle.definitions.specs.declared.Run.{Run}
use Rattle.definitions.specs.Chain.{Model, model_of, max_reward, jump_millionths, chain_of, at_reward, block_of}
use Rattle.definitions.specs.Rules.{accepted, block_size}
use Rattle.definitions.specs.Moment.{moment, start_mean, start_figure, cell_of, figure_of, cell, cells_after}
use Rattle.definitions.specs.Series.{model_at, level_at, blocks_after, block}
use Rattle.definitions.specs.Order.{NoRise, NoneRises, NoBlockRises, NoLowerFigures}
use Rattle.laws.specs.Rounding.{place_below}
use Rattle.laws.specs.BlockLaws.{get_d_block}
use Rattle.laws.specs.ChainLaws.{Raised}
use Rattle.laws.specs.VectorLaws.{U_mono}
use Rattle.laws.specs.MomentLaws.{cell_holds, figure_of_state, figure_of_start, get_d_figure, state_of_cell, weighted_mean_mono}
use Rattle.laws.specs.StartLaws.{mean_mono}
use Rattle.laws.specs.OrderLaws.{RaisedModel, largest_kept, rate_kept, entry_kept, jumps_kept, level_kept, one_raised}
use Rattle.laws.proofs.MomentFalls.{moment_falls}

-- whatever the starting weights
pub start_falls : (m : Model) (N r : ℕ) → start_figure m N (suc r) ≤ start_figure m N r
unfolding start_figure
start_falls m N r = mean_mono m.states m.start m.start _ _ (λ i l. le_refl (m.start i)) (λ i l. moment_falls m N r i l)

-- so in every row of a block
pub figure_falls : (m : Model) (N r i : ℕ) → figure_of m N (suc r) i ≤ figure_of m N r i
figure_falls m N r i = grind (arith, figure_of_state, moment_falls, figure_of_start, start_falls)

-- so in cells that hold the figures of a block
no_rise : (m : Model) (N : ℕ) (cells : List ℕ) → ((i r : ℕ) → i < m.states + m.distributions → 1 ≤ r → r ≤ m.highest → get_or cells (cell_of m i r) 0 ≡ figure_of m N r i) → NoRise m cells
no_rise m N cells holds i r l low high =
    omega (arith, holds i (r + 1) l (omega arith) (omega arith), holds i r l low (omega arith), ap (λ (k : ℕ). figure_of m N k i) (add-one r), figure_falls m N r i)

-- in those that a run leaves, and in every block that a list of times leaves
pub none_rises : (s cells : List ℕ) (run : Run) → NoneRises (accepted run) s (cells_after (accepted run) s cells)
unfolding cells_after
none_rises s cells run = no_rise (model_of s) run.level (cells_after (accepted run) s cells) (λ i r. get_d_figure (model_of s) run.level i r cells)

pub no_block_rises : (s times cells : List ℕ) (n : ℕ) → NoBlockRises (accepted n) s times (blocks_after (accepted n) s times cells)
unfolding blocks_after cell_of
no_block_rises s times cells n k h = no_rise (model_at s times k) (level_at s times k) (block s (blocks_after (accepted n) s times cells) k) holds
  where
    holds : (i r : ℕ) → i < (model_of s).states + (model_of s).distributions → 1 ≤ r → r ≤ (model_of s).highest → get_or (block s (blocks_after (accepted n) s times cells) k) (cell_of (model_of s) i r) 0 ≡ figure_of (model_at s times k) (level_at s times k) r i
    holds i r l low high =
        get_d_block (block_size s) 0 (length times) (λ j. cell (model_at s times j) (level_at s times j)) cells k (cell_of (model_of s) i r) h (place_below i (r - 1) ((model_of s).states + (model_of s).distributions) (model_of s).highest l (omega arith))
        ∙ cell_holds (model_at s times k) (level_at s times k) i r low high

module _ (a b : Model) (e : RaisedModel a b) where
  raised_chain : Raised (chain_of a) (chain_of b)
  raised_chain = grind (arith, rate_kept, largest_kept, entry_kept)

  -- no moment is lower, whatever the level
  pub moment_no_lower : (N r i : ℕ) → i < a.states → moment a N r i ≤ moment b N r i
  unfolding moment
  moment_no_lower N r i l = rw (← jumps_kept a b e) (weighted_mean_mono (jump_millionths a) N _ _ (λ n h. U_mono (chain_of a) (chain_of b) raised_chain n r i l))

  -- nor a start figure, where there is a starting distribution
  pub start_no_lower : (N r : ℕ) → 0 < a.distributions → start_figure a N r ≤ start_figure b N r
  unfolding start_figure
  start_no_lower N r some =
      let states : start_mean a.states b.start (moment b N r) ≡ start_mean b.states b.start (moment b N r) = ap (λ (n : ℕ). start_mean n b.start (moment b N r)) e.states in
      omega (arith, states, mean_mono a.states a.start b.start (moment a N r) (moment b N r) (λ i l. omega (arith, e.start some i l)) (λ i l. moment_no_lower N r i l))

  -- so no figure of a block
  figure_no_lower : (N r i : ℕ) → i < a.states + a.distributions → figure_of a N r i ≤ figure_of b N r i
  figure_no_lower N r i l =
      elim (dec_lt i a.states) [
        | yes h ↦ rw (figure_of_state a N r i h, figure_of_state b N r i (omega (arith, e.states))) (moment_no_lower N r i h)
        | no h ↦ rw (figure_of_start a N r i (omega (arith, h)), figure_of_start b N r i (omega (arith, h, e.states))) (start_no_lower N r (omega (arith, h)))
      ]

  pub cell_no_lower : (N k : ℕ) → k < block_of a → cell a N k ≤ cell b N k
  unfolding cell
  cell_no_lower N k l = omega (arith, ap (λ (R : ℕ). figure_of b N (k % R + 1) (k / R)) e.highest, figure_no_lower N (k % a.highest + 1) (k / a.highest) (state_of_cell k (a.states + a.distributions) a.highest l))

-- document 02's sentence, of models: it has the same level, and no lower figure
pub reward_raised : (m : Model) (i x : ℕ) → m.reward i ≤ x → x ≤ max_reward m → NoLowerFigures m i x
unfolding start_figure
reward_raised m i x low high =
    let e = one_raised m i x low high in
    record {
      same_level = sym (level_kept m (at_reward m i x) e);
      moments = moment_no_lower m (at_reward m i x) e;
      starts = λ N r. mean_mono m.states m.start m.start (moment m N r) (moment (at_reward m i x) N r) (λ j l. le_refl (m.start j)) (moment_no_lower m (at_reward m i x) e N r);
    }
