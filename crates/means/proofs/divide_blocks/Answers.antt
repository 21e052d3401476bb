-- The sums are divided block by block: from block k on they stand as they were.
use Rattle.std.proofs.Common.{◌≡◌, sym, ap, List, ℕ, ◌+◌, ◌*◌, ◌<◌, get_or, length, arith}
use Rattle.definitions.specs.Moment.{last_quotient}
use Rattle.laws.specs.BlockLaws.{blocks_none}
use Rattle.means.proofs.Parts.{part, length_part, entry_part, put_back}
use Rattle.means.proofs.divide_blocks.Goals as goal
use Rattle.means.proofs.divide_blocks.Goals.{Start, In-loop-k}

-- what block j becomes
abbrev divided : Start → ℕ → ℕ → ℕ
divided c j e = last_quotient (get_or c.args.cells.now (j * c.args.block + e) 0) (get_or c.args.totals.now j 0)

pub loop-k-init : goal.loop-k-init
loop-k-init c = sym (blocks_none c.args.block (divided (goal.at.loop-k-init c).Start) c.args.cells.now)

-- a turn of the loop
module _ (c : In-loop-k) where
  abbrev start : Start
  start = (goal.at.In-loop-k c).Start

  abbrev k : ℕ
  k = c.loop-k.k

  -- block k
  abbrev own : List ℕ
  own = part c.args.block (length c.args.totals.now) (divided start) c.args.cells.now c.requires.enough k c.loop-k.cells c.loop-k.invariant c.loop-k-test.true

  length_own : length own ≡ c.args.block
  length_own = length_part c.args.block (length c.args.totals.now) (divided start) c.args.cells.now c.requires.enough k c.loop-k.cells c.loop-k.invariant c.loop-k-test.true

  standing : (e : ℕ) → e < c.args.block → get_or own e 0 ≡ get_or c.args.cells.now (k * c.args.block + e) 0
  standing e h = entry_part c.args.block (length c.args.totals.now) (divided start) c.args.cells.now c.requires.enough k c.loop-k.cells c.loop-k.invariant c.loop-k-test.true e h

pub divide_sums-requires : goal.divide_sums-requires
divide_sums-requires c =
    let turn = (goal.at.divide_sums-requires c).In-loop-k in
    record {
      total_pos = c.requires.total_pos (k turn) c.loop-k-test.true;
      total_max = c.requires.total_max (k turn) c.loop-k-test.true;
      below = λ e h.
          let low : e < c.args.block = omega (arith, h, length_own turn) in
          omega (arith, standing turn e low, c.requires.below (k turn) e c.loop-k-test.true low);
    }

pub loop-k-preserved : goal.loop-k-preserved
loop-k-preserved c =
    let turn = (goal.at.loop-k-preserved c).In-loop-k in
    put_back c.args.block (length c.args.totals.now) (divided (start turn)) c.args.cells.now c.requires.enough (k turn) c.loop-k.cells c.loop-k.invariant c.loop-k-test.true
    _ c.divide_sums.new.sums (rw (length_own turn) at c.divide_sums.ensures) (λ e h. ap (λ (a : ℕ). last_quotient a (get_or c.args.totals.now (k turn) 0)) (standing turn e h))
