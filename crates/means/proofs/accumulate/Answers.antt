-- The sums after n terms, the vectors of n, and the row means up to n, as n rises to the largest level.
use Rattle.std.proofs.Common.{◌≡◌, refl, sym, ◌∙◌, List, ℕ, ◌+◌, ◌-◌, ◌*◌, ◌++◌, length, drop, arith}
use Rattle.definitions.specs.Vectors.{row_means}
use Rattle.laws.specs.ArrayLaws.{zeros}
use Rattle.laws.specs.VectorLaws.{means_none, means_next, means_max}
use Rattle.vectors.specs.Lent.{listing_of, chain_in}
use Rattle.vectors.specs.Table.{blank, table_of}
use Rattle.vectors.proofs.Filled.{filled_over}
use Rattle.means.specs.Running.{part_sums}
use Rattle.means.specs.RunningLaws.{sums_none, may_add, added}
use Rattle.means.proofs.accumulate.Goals as goal
use Rattle.means.proofs.accumulate.Goals.{Start, After-fill, After-add_to_blocks, After-add_to_blocks-in-loop-n}

pub first_table-requires : goal.first_table-requires
unfolding blank zeros
first_table-requires c = (c.args.chain.now.ready.rewards, c.requires.0.highest_max, refl)

-- the sums of the terms of n values of n, over the cells that were lent
abbrev sums : Start → ℕ → List ℕ
sums c n = part_sums (chain_in c.args.chain.now) c.args.chain.now.rows.sizes.block c.args.levels.now c.args.weights.now c.args.chain.now.rows.sizes.highest n c.args.cells.now

module _ (c : After-fill) where
  abbrev cells : List ℕ
  cells = c.fill.new.self ++ drop (length c.args.levels.now * c.args.chain.now.rows.sizes.block) c.args.cells.now

  -- no term yet
  cleared : cells ≡ sums (goal.at.After-fill c).Start 0
  cleared =
      filled_over (length c.args.levels.now * c.args.chain.now.rows.sizes.block) 0 c.fill.new.self c.args.cells.now c.requires.2 (c.fill.ensures.after (λ y e. e))
      ∙ sums_none (chain_in c.args.chain.now) c.args.chain.now.rows.sizes.block c.args.levels.now c.args.weights.now c.args.chain.now.rows.sizes.highest c.args.cells.now c.requires.2 _ refl

  first_vectors : c.first_table.new.table ≡ table_of (chain_in c.args.chain.now) c.args.chain.now.rows.sizes.highest 0
  first_vectors = c.first_table.ensures (listing_of c.args.chain.now.rows)

pub add_to_blocks-requires : goal.add_to_blocks-requires
add_to_blocks-requires c =
    let after = (goal.at.add_to_blocks-requires c).After-fill in
    may_add c.args.chain.now.rows.sizes _ _ _ _ c.args.chain.now.ready c.requires.0 c.args.cells.now c.requires.2 0 _ _ (cleared after) (first_vectors after)

pub loop-n-init : goal.loop-n-init
loop-n-init c =
    let after = (goal.at.loop-n-init c).After-fill in
    record {
      within = omega arith;
      counted = sym (means_none c.args.chain.now.rows.sizes.states c.args.chain.now.rows.sizes.highest);
      table = first_vectors after;
      sums = added c.args.chain.now.rows.sizes _ _ _ _ c.args.chain.now.ready c.requires.0 c.args.cells.now c.requires.2 0 _ _ _ (cleared after) (first_vectors after) c.add_to_blocks.ensures;
    }

pub next_table-requires : goal.next_table-requires
next_table-requires c =
    let z = c.args.chain.now.rows.sizes in
    let back : c.loop-n.n - 1 + 1 ≡ c.loop-n.n = omega arith in
    let next = rw back at (means_next (c.loop-n.n - 1) z.states z.highest) in
    record {
      in_range = (c.requires.0.highest_max, omega arith, omega (arith, c.requires.1.largest_max), omega (arith, c.loop-n.invariant.counted, next, means_max c.loop-n.n z.states z.highest (omega (arith, c.requires.1.largest_max)) c.args.chain.now.ready.rewards.states_max c.requires.0.highest_max));
      table_value = c.loop-n.invariant.table;
    }

pub add_to_blocks-requires-in-loop-n : goal.add_to_blocks-requires-in-loop-n
add_to_blocks-requires-in-loop-n c =
    may_add c.args.chain.now.rows.sizes _ _ _ _ c.args.chain.now.ready c.requires.0 c.args.cells.now c.requires.2 c.loop-n.n _ _ c.loop-n.invariant.sums c.next_table.ensures.table

-- with the terms of n
module _ (c : After-add_to_blocks-in-loop-n) where
  abbrev start : Start
  start = (goal.at.After-add_to_blocks-in-loop-n c).Start

  summed : c.add_to_blocks-in-loop-n.new.cells ≡ sums start (c.loop-n.n + 1)
  summed = added c.args.chain.now.rows.sizes _ _ _ _ c.args.chain.now.ready c.requires.0 c.args.cells.now c.requires.2 c.loop-n.n _ _ _ c.loop-n.invariant.sums c.next_table.ensures.table c.add_to_blocks-in-loop-n.ensures

  -- and the row means up to n
  counted : c.next_table.new.taken ≡ row_means c.loop-n.n c.args.chain.now.rows.sizes.states c.args.chain.now.rows.sizes.highest
  counted =
      let z = c.args.chain.now.rows.sizes in
      let back : c.loop-n.n - 1 + 1 ≡ c.loop-n.n = omega arith in
      omega (arith, c.next_table.ensures.taken, c.loop-n.invariant.counted, rw back at (means_next (c.loop-n.n - 1) z.states z.highest))

pub loop-n-preserved : goal.loop-n-preserved
loop-n-preserved c =
    let turn = (goal.at.loop-n-preserved c).After-add_to_blocks-in-loop-n in
    let back : c.loop-n.n + 1 - 1 ≡ c.loop-n.n = omega arith in
    record {
      within = omega arith;
      counted = rw back (counted turn);
      table = rw back c.next_table.ensures.table;
      sums = summed turn;
    }

pub returns : goal.returns
returns c =
    let all : c.loop-n.n ≡ c.args.largest + 1 = omega arith in
    let back : c.args.largest + 1 - 1 ≡ c.args.largest = omega arith in
    record { cells = rw all at c.loop-n.invariant.sums; taken = rw (all, back) at c.loop-n.invariant.counted }

pub returns-2 : goal.returns-2
returns-2 c =
    let turn = (goal.at.returns-2 c).After-add_to_blocks-in-loop-n in
    let all : c.loop-n.n ≡ c.args.largest = omega arith in
    record { cells = rw all at (summed turn); taken = rw all at (counted turn) }
