-- The printed sheet: each figure denotes its cell, and what the program reads is the whole file.
use Rattle.std.specs.Prelude.{ℕ, ◌+◌, ◌≤◌, ◌<◌, ◌≡◌, refl, List, length, get_or, take, replicate}
use Rattle.std.proofs.Common.{arith, take_all, length-take-le}
use Rattle.std.proofs.Math.Decide.{dec_lt}
use Rattle.std.proofs.lemmas.List.{length-replicate}
use Rattle.definitions.specs.declared.Run.{Run}
use Rattle.definitions.specs.Chain.{Model}
use Rattle.definitions.specs.Rules.{Answer, accepted, refused, block_size, judgement}
use Rattle.definitions.specs.Vectors.{ONE}
use Rattle.definitions.specs.Moment.{figure_of, cell, model_level, outcome, cells_after}
use Rattle.definitions.specs.Sheet.{FiguresDenote, SheetDenotes, lent_cells, read_limit}
use Rattle.laws.specs.ListLaws.{get_d_over}
use Rattle.laws.specs.Acceptance.{WithinLimits, accepted_file}
use Rattle.laws.specs.MomentLaws.{figure_of_state, figure_of_start, state_of_cell, outcome_accepted, run_judged}
use Rattle.laws.proofs.Demand3.{moment_max, start_close}
use Rattle.laws.specs.SheetLaws.{figure_denotes, short}

-- no figure of a model within its limits is above ONE
figure_max : (m : Model) → WithinLimits m → (r i : ℕ) → i < m.states + m.distributions → figure_of m (model_level m) r i ≤ ONE
figure_max m g r i l =
    elim (dec_lt i m.states) [
      | yes h ↦ rw (figure_of_state m (model_level m) r i h) (moment_max m g r i h)
      | no h ↦ rw (figure_of_start m (model_level m) r i (omega (arith, h))) (omega (arith, (start_close m g r (omega (arith, h))).at_most_one.cross))
    ]

-- nor is a cell after a run
cell_max : (s : List ℕ) (run : Run) (cells : List ℕ) → outcome s (length cells) ≡ accepted run → (k : ℕ) → k < block_size s → get_or (cells_after (accepted run) s cells) k 0 ≤ ONE
unfolding cells_after cell
cell_max s run cells e k l = grind (arith, run_judged, accepted_file, outcome_accepted, get_d_over, figure_max, state_of_cell)

-- so each figure of a sheet denotes its cell
pub sheet_denotes : (s : List ℕ) → SheetDenotes s
sheet_denotes s = from (outcome s lent_cells) refl
  where
    from : (a : Answer Run) → outcome s lent_cells ≡ a → FiguresDenote a s (cells_after a s (replicate lent_cells 0))
    from (refused k) e = tt
    from (accepted run) e = λ k l. figure_denotes _ (cell_max s run (replicate lent_cells 0) (rw (length-replicate {A = ℕ} lent_cells 0) e) k l)

pub read_whole : (s : List ℕ) (cells : ℕ) → judgement s cells ≡ accepted tt → take read_limit s ≡ s
read_whole s cells passed = take_all read_limit s (omega (arith, short s cells passed))

pub read_no_part : (input : List ℕ) (cells : ℕ) → judgement (take read_limit input) cells ≡ accepted tt → take read_limit input ≡ input
read_no_part input cells passed =
    elim (dec_lt (length input) read_limit) [
      | yes h ↦ take_all read_limit input (omega (arith, h))
      | no h ↦ absurd (omega (arith, short (take read_limit input) cells passed, length-take-le read_limit input (omega (arith, h))))
    ]
