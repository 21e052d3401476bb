-- Demand 3, of the definitions: for every accepted file the figures at the level satisfy Promise.
use Rattle.std.specs.Prelude.{ℕ, ◌+◌, ◌*◌, ◌≤◌, ◌<◌, ◌≡◌, List, length}
use Rattle.std.proofs.Common.{arith, le_refl}
use Rattle.definitions.specs.Chain.{Model, model_of, jump_millionths, chain_of}
use Rattle.definitions.specs.Rules.{accepted, judgement}
use Rattle.definitions.specs.Vectors.{ONE, U}
use Rattle.definitions.specs.Weights.{weight_sum}
use Rattle.definitions.specs.Moment.{weighted, moment, start_figure, model_level, run_of, cells_after}
use Rattle.definitions.specs.Fraction.{AtMost, plus}
use Rattle.definitions.specs.Average.{proper, exact_u, average, start_average}
use Rattle.definitions.specs.Promise.{one_pos, ticks, tolerance_of, rounding_ticks, start_ticks, Close, StartClose, Promise}
use Rattle.laws.specs.LevelLaws.{level_is, level_mode}
use Rattle.laws.specs.VectorLaws.{U_bound}
use Rattle.laws.proofs.VectorError.{vector_near}
use Rattle.laws.proofs.AverageBound.{Setting, LastQuotient, close_at_level, close_past_level}
use Rattle.laws.specs.MomentLaws.{figure_of_state, figure_of_start, get_d_figure}
use Rattle.laws.proofs.MomentLaws.{last_within, level_range}
use Rattle.laws.specs.StartLaws.{mean_max, one_more, one_more_past, mean_within}
use Rattle.laws.specs.Acceptance.{WithinLimits, AcceptedFile, accepted_file}
use Rattle.laws.proofs.Acceptance.{stochastic}

module _ (m : Model) (g : WithinLimits m) where
  -- U of a state below M for moment r, as n runs
  abbrev sequence : ℕ → ℕ → ℕ → ℕ
  sequence r i n = U (chain_of m) n r i

  -- the level is one that passes, and so short that the errors' sum stays small
  setting : (r i P : ℕ) → i < m.states → LastQuotient (weighted (jump_millionths m) (sequence r i) (model_level m)) (weight_sum (jump_millionths m) (model_level m)) P → Setting (jump_millionths m) m.tolerance (model_level m) r (sequence r i) (λ n. exact_u (chain_of m) (proper m g.rewards_pos) n r i) P
  unfolding model_level
  setting r i P l q =
      record {
        jumps = g.jumps_pos;
        passes = (level_is (jump_millionths m) m.tolerance g.jumps_max g.tolerance_pos).passes;
        short = let most : model_level m ≤ 563 = (level_range m g).1 in omega (arith, most);
        ticks_max = λ n h. U_bound (chain_of m) (stochastic m) n r i l;
        near = λ n. vector_near (chain_of m) (proper m g.rewards_pos) (stochastic m) n r i l;
        last = q;
      }

  -- any last quotient P within one tick is close to the exact average
  pub close_of : (r i P : ℕ) → i < m.states → LastQuotient (weighted (jump_millionths m) (sequence r i) (model_level m)) (weight_sum (jump_millionths m) (model_level m)) P → Close m g.rewards_pos (model_level m) r i (ticks P)
  unfolding average
  close_of r i P l q =
      let s = setting r i P l q in
      record {
        not_negative = record { cross = omega arith };
        at_most_one = record { cross = omega (arith, q.top) };
        at_level = close_at_level (jump_millionths m) m.tolerance (model_level m) r (sequence r i) _ P s;
        past_level = close_past_level (jump_millionths m) m.tolerance (model_level m) r (sequence r i) _ P s;
      }

  -- the moment is one
  pub moment_close : (r i : ℕ) → i < m.states → Close m g.rewards_pos (model_level m) r i (ticks (moment m (model_level m) r i))
  unfolding moment
  moment_close r i l =
      close_of r i _ l
      (last_within (jump_millionths m) (model_level m) (sequence r i)
      (unfold model_level in level_mode (jump_millionths m) m.tolerance g.jumps_max g.tolerance_pos)
      (λ n h. U_bound (chain_of m) (stochastic m) n r i l))

  -- no moment is above 1
  pub moment_max : (r i : ℕ) → i < m.states → moment m (model_level m) r i ≤ ONE
  moment_max r i l = omega (arith, (moment_close r i l).at_most_one.cross)

  -- the start figure is close to the averages weighted so
  pub start_close : (r : ℕ) → 0 < m.distributions → StartClose m g.rewards_pos (model_level m) r (ticks (start_figure m (model_level m) r))
  unfolding start_figure start_average
  start_close r some =
      let full = g.weights_sum some in
      let k : ℕ = 3 * model_level m + 2 * r + 3 in
      let more : k + 1 ≡ 3 * model_level m + 2 * r + 4 = omega arith in
      let one : AtMost (plus (ticks k) (ticks 1)) (start_ticks (model_level m) r) = rw more at (one_more k ONE one_pos) in
      let one_past : AtMost (plus (plus (tolerance_of m) (ticks k)) (ticks 1)) (plus (tolerance_of m) (start_ticks (model_level m) r)) = rw more at (one_more_past (tolerance_of m) k ONE one_pos) in
      record {
        not_negative = record { cross = omega arith };
        at_most_one = record { cross = omega (arith, mean_max m.states m.start (moment m (model_level m) r) ONE full (λ i l. moment_max r i l)) };
        at_level = mean_within m.states m.start (moment m (model_level m) r) (average m g.rewards_pos (model_level m) r) (rounding_ticks (model_level m) r) full (λ i l. (moment_close r i l).at_level) (start_ticks (model_level m) r) one;
        past_level = λ L past. mean_within m.states m.start (moment m (model_level m) r) (average m g.rewards_pos L r) (plus (tolerance_of m) (rounding_ticks (model_level m) r)) full (λ i l. (moment_close r i l).past_level L past) (plus (tolerance_of m) (start_ticks (model_level m) r)) one_past;
      }

-- demand 3 for every accepted file, at its level, of the cells after the call
pub demand3 : (s cells : List ℕ) → judgement s (length cells) ≡ accepted tt → Promise s (model_level (model_of s)) (cells_after (accepted (run_of (model_of s))) s cells)
unfolding cells_after
demand3 s cells passed =
    let f : AcceptedFile s (length cells) = accepted_file s (length cells) passed in
    let m : Model = model_of s in
    let N : ℕ = model_level m in
    record {
      rewarded = f.model.limits.rewards_pos;
      close =
          λ i r l low high.
          rw (get_d_figure m N i r cells (omega arith) low high, figure_of_state m N r i l) (moment_close m f.model.limits r i l);
      start_close =
          λ r some low high.
          rw (get_d_figure m N m.states r cells (omega arith) low high, figure_of_start m N r m.states (le_refl m.states)) (start_close m f.model.limits r some);
    }
