-- The figures are put block by block: from block k on the cells stand as they were.
use Rattle.std.proofs.Common.{◌≡◌, sym, ◌∙◌, List, ℕ, ◌+◌, ◌-◌, ◌*◌, ◌<◌, get_or, length, take, drop, length-drop, arith}
use Rattle.std.proofs.lemmas.List.{length-take-le}
use Rattle.laws.specs.ArrayLaws.{entry_of}
use Rattle.laws.specs.BlockLaws.{block_end, blocks_none, get_d_next, blocks_back}
use Rattle.start.specs.Figures.{start_cell}
use Rattle.start.specs.FigureLaws.{cell_same}
use Rattle.start.proofs.StartWeights.put_in_blocks.Goals as goal
use Rattle.start.proofs.StartWeights.put_in_blocks.Goals.{In-loop-k, Start}

module _ (c : Start) where
  abbrev M : ℕ
  M = c.args.self.now.states

  abbrev R : ℕ
  R = c.args.self.now.highest

  abbrev B : ℕ
  B = (M + 1) * R

  -- the cells of block j, as handed over and with the figures
  abbrev given : ℕ → ℕ → ℕ
  given j e = get_or c.args.cells.now (j * B + e) 0

  abbrev put : ℕ → ℕ → ℕ
  put j = start_cell (entry_of c.args.self.now.weights.now) M R (given j)

pub loop-k-init : goal.loop-k-init
loop-k-init c = let begun = (goal.at.loop-k-init c).Start in sym (blocks_none (B begun) (put begun) c.args.cells.now)

-- a turn of the loop
module _ (c : In-loop-k) where
  abbrev start : Start
  start = (goal.at.In-loop-k c).Start

  abbrev k : ℕ
  k = c.loop-k.k

  -- block k, as it is lent
  abbrev entries : ℕ
  entries = (k + 1) * B start - k * B start

  abbrev own : List ℕ
  own = take entries (drop (k * B start) c.loop-k.cells)

  length_own : length own ≡ B start
  length_own =
      length-take-le entries (drop (k * B start) c.loop-k.cells)
      (omega (arith, block_end k c.args.count (B start) c.loop-k-test.true, c.requires.room, length-drop (k * B start) c.loop-k.cells))
      ∙ omega arith

  -- the moments in it are those that were handed over
  standing : (e : ℕ) → e < M start * R start → get_or own e 0 ≡ given start k e
  standing e b = get_d_next (B start) 0 k entries (put start) c.args.cells.now c.loop-k.cells c.loop-k.invariant (omega (arith, length_own)) e (omega (arith, b))

pub put_figures-requires : goal.put_figures-requires
put_figures-requires c =
    let turn = (goal.at.put_figures-requires c).In-loop-k in (
      record {
        highest_max = c.requires.highest_max;
        room = omega (arith, length_own turn);
        most = λ e b. omega (arith, standing turn e b, c.requires.most (k turn) e c.loop-k-test.true b);
      },
      omega (arith, length_own turn),
    )

pub loop-k-preserved : goal.loop-k-preserved
loop-k-preserved c =
    let turn = (goal.at.loop-k-preserved c).In-loop-k in
    let begun = start turn in
    blocks_back (B begun) (k turn) (entries turn) (put begun) _ c.args.cells.now c.loop-k.cells _ c.loop-k.invariant (omega (arith, length_own turn)) c.put_figures.ensures
    (cell_same c.args.self.now.weights.now _ _ (entry_of (own turn)) (given begun (k turn)) (standing turn))
