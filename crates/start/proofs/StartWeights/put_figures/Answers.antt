-- The figures are put one after the other: the moments before them stand as they were.
use Rattle.std.proofs.Common.{◌≡◌, sym, ◌∙◌, ap, List, ℕ, ◌+◌, ◌*◌, ◌<◌, get_or, arith}
use Rattle.laws.specs.ArrayLaws.{entry_of}
use Rattle.laws.specs.ListLaws.{get_d_over, over_kept, over_store}
use Rattle.start.specs.Figures.{start_cell}
use Rattle.start.specs.FigureLaws.{cell_kept, cell_of_figure, figure_same}
use Rattle.start.proofs.StartWeights.put_figures.Goals as goal
use Rattle.start.proofs.StartWeights.put_figures.Goals.{In-loop-r, Start}

module _ (c : Start) where
  abbrev M : ℕ
  M = c.args.self.now.states

  abbrev R : ℕ
  R = c.args.self.now.highest

  abbrev weights : List ℕ
  weights = c.args.self.now.weights.now

  -- the cells with all figures: those of the moments stay
  abbrev put : ℕ → ℕ
  put = start_cell (entry_of weights) M R (entry_of c.args.block.now)

  kept : (e : ℕ) → e < M * R → put e ≡ get_or c.args.block.now e 0
  kept e b = cell_kept weights M R (entry_of c.args.block.now) e b

pub loop-r-init : goal.loop-r-init
loop-r-init c =
    let begun = (goal.at.loop-r-init c).Start in
    sym (over_kept 0 _ (put begun) c.args.block.now (omega (arith, c.requires.0.room)) (λ e b. kept begun e (omega (arith, b))))

-- the moments are those that were handed over
standing : (c : In-loop-r) (e : ℕ) → e < M (goal.at.In-loop-r c).Start * R (goal.at.In-loop-r c).Start → get_or c.loop-r.block e 0 ≡ get_or c.args.block.now e 0
standing c e b =
    let begun = (goal.at.In-loop-r c).Start in
    ap (λ (l : List ℕ). get_or l e 0) c.loop-r.invariant
    ∙ get_d_over 0 _ (put begun) c.args.block.now e (omega (arith, b))
    ∙ kept begun e b

pub figure-requires : goal.figure-requires
figure-requires c =
    let turn = (goal.at.figure-requires c).In-loop-r in (
      record {
        highest_max = c.requires.0.highest_max;
        room = omega (arith, c.requires.0.room);
        most = λ e b. rw (standing turn e b) (c.requires.0.most e b);
      },
      c.loop-r-test.true,
    )

-- the result is the figure of the block as it stands, and so of the block handed over
pub loop-r-preserved : goal.loop-r-preserved
loop-r-preserved c =
    let begun = (goal.at.loop-r-preserved c).Start in
    let turn = (goal.at.loop-r-preserved c).In-loop-r in
    let r = c.loop-r.r in
    let next : M begun * R begun + r + 1 ≡ M begun * R begun + (r + 1) = omega arith in
    let is_figure =
    c.figure.ensures.0
    ∙ figure_same (weights begun) (M begun) (R begun) (entry_of c.loop-r.block) (entry_of c.args.block.now) r c.loop-r-test.true (standing turn)
    ∙ sym (cell_of_figure (weights begun) (M begun) (R begun) (entry_of c.args.block.now) r) in
    rw next at (over_store (M begun * R begun + r) (put begun) c.args.block.now c.loop-r.block c.figure.result (omega (arith, c.requires.1)) c.loop-r.invariant is_figure)

pub returns : goal.returns
returns c =
    let begun = (goal.at.returns c).Start in
    let done : M begun * R begun + c.loop-r.r ≡ (M begun + 1) * R begun = omega arith in
    rw done at c.loop-r.invariant
