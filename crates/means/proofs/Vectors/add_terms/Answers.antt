-- The terms are added state by state: the R cells of each state are a block, and from state i on the sums stand as they were.
use Rattle.std.proofs.Common.{◌≡◌, sym, ◌∙◌, ap, List, [], ℕ, ◌+◌, ◌*◌, ◌<◌, get_or, length, arith}
use Rattle.definitions.specs.Sums.{blocks}
use Rattle.definitions.specs.Moment.{term}
use Rattle.laws.specs.Rounding.{quotient_remainder, place_below}
use Rattle.laws.specs.ListLaws.{over_same}
use Rattle.laws.specs.BlockLaws.{blocks_none}
use Rattle.means.specs.Running.{in_table}
use Rattle.means.specs.RunningLaws.{cell_in_table}
use Rattle.means.proofs.Parts.{part, length_part, entry_part, put_back}
use Rattle.means.proofs.Vectors.add_terms.Goals as goal
use Rattle.means.proofs.Vectors.add_terms.Goals.{Start, In-loop-i}

-- U(n,r + 1) at i, as it stands in the table
abbrev entry : Start → ℕ → ℕ → ℕ
entry c i r = get_or (get_or c.args.self.now.table.now (r + 1) []) i 0

abbrev R : Start → ℕ
R c = c.args.self.now.sizes.highest

-- what the cells of state i become
abbrev summed : Start → ℕ → ℕ → ℕ
summed c i r = get_or c.args.cells.now (i * R c + r) 0 + term c.args.w (entry c i r)

pub loop-i-init : goal.loop-i-init
loop-i-init c = sym (blocks_none (R (goal.at.loop-i-init c).Start) (summed (goal.at.loop-i-init c).Start) c.args.cells.now)

-- a turn of the loop
module _ (c : In-loop-i) where
  abbrev start : Start
  start = (goal.at.In-loop-i c).Start

  abbrev i : ℕ
  i = c.loop-i.i

  -- the cells of state i
  abbrev own : List ℕ
  own = part (R start) c.args.self.now.sizes.states (summed start) c.args.cells.now c.requires.enough i c.loop-i.cells c.loop-i.invariant c.loop-i-test.true

  length_own : length own ≡ R start
  length_own = length_part (R start) c.args.self.now.sizes.states (summed start) c.args.cells.now c.requires.enough i c.loop-i.cells c.loop-i.invariant c.loop-i-test.true

  standing : (r : ℕ) → r < R start → get_or own r 0 ≡ get_or c.args.cells.now (i * R start + r) 0
  standing r h = entry_part (R start) c.args.self.now.sizes.states (summed start) c.args.cells.now c.requires.enough i c.loop-i.cells c.loop-i.invariant c.loop-i-test.true r h

  cell : (r : ℕ) → r < R start → i * R start + r < c.args.self.now.sizes.states * R start
  cell r h = place_below i r c.args.self.now.sizes.states (R start) c.loop-i-test.true h

pub add_terms_at-requires : goal.add_terms_at-requires
add_terms_at-requires c =
    let turn = (goal.at.add_terms_at-requires c).In-loop-i in
    let given = c.requires in
    record {
      state = omega (arith, given.states_max);
      moments = omega (arith, length_own turn, given.highest_max);
      weight_max = given.weight_max;
      ticks_max = λ r h.
          let low : r < R (start turn) = omega (arith, h, length_own turn) in
          let k = i turn * R (start turn) + r in
          omega (arith, given.ticks_max k (cell turn r low), cell_in_table c.args.self.now.table.now (i turn) (r + 1) (R (start turn)) k (omega arith) (omega arith) (omega (arith, low)));
      room = λ r h.
          let low : r < R (start turn) = omega (arith, h, length_own turn) in
          omega (arith, standing turn r low, given.room (i turn * R (start turn) + r) (cell turn r low));
    }

pub loop-i-preserved : goal.loop-i-preserved
loop-i-preserved c =
    let turn = (goal.at.loop-i-preserved c).In-loop-i in
    put_back (R (start turn)) c.args.self.now.sizes.states (summed (start turn)) c.args.cells.now c.requires.enough (i turn) c.loop-i.cells c.loop-i.invariant c.loop-i-test.true
    (λ r. get_or (own turn) r 0 + term c.args.w (entry (start turn) (i turn) r)) c.add_terms_at.new.cells (rw (length_own turn) at c.add_terms_at.ensures)
    (λ r h. ap (λ (x : ℕ). x + term c.args.w (entry (start turn) (i turn) r)) (standing turn r h))

-- the blocks of all states are the cells in their order
pub returns : goal.returns
unfolding blocks
returns c =
    let begun = (goal.at.returns c).Start in
    let all : c.loop-i.i ≡ c.args.self.now.sizes.states = omega arith in
    rw all at c.loop-i.invariant
    ∙ over_same (c.args.self.now.sizes.states * R begun) _ _ c.args.cells.now
    (λ k h. ap (λ (p : ℕ). get_or c.args.cells.now p 0 + term c.args.w (in_table c.args.self.now.table.now (R begun) k)) (quotient_remainder k (R begun)))
