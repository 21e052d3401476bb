-- The terms are added block by block: from block k on the sums stand as they were.
use Rattle.std.specs.Prelude.{◌≡◌, List, ℕ, ◌+◌, ◌*◌, ◌-◌, ◌<◌, ◌≤◌, get_or, length, take, drop}
use Rattle.std.proofs.Common.{sym, ◌∙◌, ap, ap₂, length-drop, arith}
use borrow.Author.Rules.{part_to_end}
use Rattle.laws.specs.BlockLaws.{block_end, blocks_none}
use Rattle.laws.specs.LevelLaws.{LEVELS}
use Rattle.means.specs.Running.{in_table, row_from, term_at, of_states}
use Rattle.means.specs.RunningLaws.{terms_in_block, addable_at}
use Rattle.means.proofs.Parts.{part, length_part, entry_part, put_back}
use Rattle.means.proofs.Vectors.add_to_blocks.Goals.{Start, In-loop-k}
use Rattle.means.proofs.Vectors.add_to_blocks.Goals as goal

abbrev B : Start → ℕ
B c = c.args.self.now.sizes.block

-- the cells of the states
abbrev D : Start → ℕ
D c = c.args.self.now.sizes.states * c.args.self.now.sizes.highest

-- what is added to cell e of a block, by a row of weights and a level
abbrev added : Start → List ℕ → ℕ → ℕ → ℕ
added c row level e = of_states (D c) e (term_at row c.args.self.now.n level (in_table c.args.self.now.table.now c.args.self.now.sizes.highest e))

-- what block j becomes
abbrev summed : Start → ℕ → ℕ → ℕ
summed c j e = get_or c.args.cells.now (j * B c + e) 0 + added c (row_from c.args.weights.now j) (get_or c.args.levels.now j 0) e

pub loop-k-init : goal.loop-k-init
loop-k-init c = sym (blocks_none (B (goal.at.loop-k-init c).Start) (summed (goal.at.loop-k-init c).Start) c.args.cells.now)

-- a turn of the loop
module _ (c : In-loop-k) where
  abbrev start : Start
  start = (goal.at.In-loop-k c).Start

  abbrev k : ℕ
  k = c.loop-k.k

  -- block k
  abbrev own : List ℕ
  own = part (B start) (length c.args.levels.now) (summed start) c.args.cells.now c.requires.enough k c.loop-k.cells c.loop-k.invariant c.loop-k-test.true

  length_own : length own ≡ B start
  length_own = length_part (B start) (length c.args.levels.now) (summed start) c.args.cells.now c.requires.enough k c.loop-k.cells c.loop-k.invariant c.loop-k-test.true

  standing : (e : ℕ) → e < B start → get_or own e 0 ≡ get_or c.args.cells.now (k * B start + e) 0
  standing e h = entry_part (B start) (length c.args.levels.now) (summed start) c.args.cells.now c.requires.enough k c.loop-k.cells c.loop-k.invariant c.loop-k-test.true e h

  -- row k of the weights, as it is lent
  abbrev row : List ℕ
  row = take (length c.args.weights.now - k * LEVELS) (drop (k * LEVELS) c.args.weights.now)

  is_row : row ≡ row_from c.args.weights.now k
  is_row = part_to_end c.args.weights.now (k * LEVELS)

  length_row : LEVELS ≤ length row
  length_row = omega (arith, block_end k (length c.args.levels.now) LEVELS c.loop-k-test.true, c.requires.rows, length-drop (k * LEVELS) c.args.weights.now, ap (length {A = ℕ}) is_row)

pub add_up_to_level-requires : goal.add_up_to_level-requires
add_up_to_level-requires c =
    let turn = (goal.at.add_up_to_level-requires c).In-loop-k in (
      λ h. omega (arith, h, c.requires.level_max (k turn) c.loop-k-test.true, length_row turn),
      λ h. addable_at c.args.self.now.sizes c.args.self.now.n c.args.levels.now c.args.weights.now c.args.cells.now c.args.self.now.table.now c.requires (k turn) _ c.loop-k-test.true (summed (start turn)) c.loop-k.cells c.loop-k.invariant (omega (arith, length_own turn)) (row turn) (is_row turn) h,
      omega (arith, length_own turn, c.requires.fitting.states_within),
    )

pub loop-k-preserved : goal.loop-k-preserved
loop-k-preserved c =
    let turn = (goal.at.loop-k-preserved c).In-loop-k in
    let level = get_or c.args.levels.now (k turn) 0 in
    let whole_block =
    c.add_up_to_level.ensures
    ∙ terms_in_block (own turn) (row turn) (D (start turn)) (B (start turn)) c.args.self.now.n level (in_table c.args.self.now.table.now c.args.self.now.sizes.highest) c.requires.fitting.states_within (omega (arith, length_own turn)) in
    put_back (B (start turn)) (length c.args.levels.now) (summed (start turn)) c.args.cells.now c.requires.enough (k turn) c.loop-k.cells c.loop-k.invariant c.loop-k-test.true
    _ c.add_up_to_level.new.cells whole_block
    (λ e h. ap₂ (λ (a : ℕ) (x : List ℕ). a + added (start turn) x level e) (standing turn e h) (is_row turn))
