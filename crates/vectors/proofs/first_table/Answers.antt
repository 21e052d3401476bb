-- `vectors::first_table` meets its contract. The invariant: the rows below r are U(0,0), U(0,1), …, for any chain. Assumes nothing.
use Rattle.std.proofs.Common.{◌≡◌, ap, ◌∙◌, List, [], ℕ, ◌+◌, ◌-◌, get_or, arith}
use Rattle.std.proofs.Math.ListN.{set}
use Rattle.definitions.specs.Sums.{over}
use Rattle.definitions.specs.Chain.{Chain, Listing, listed, padded, arrays}
use Rattle.definitions.specs.Vectors.{reward_share, vector}
use Rattle.vectors.specs.ReadyLaws.{no_chain}
use Rattle.vectors.specs.StepLaws.{vector_ticks, vector_first}
use Rattle.vectors.specs.Table.{blank}
use Rattle.vectors.specs.TableLaws.{blank_zeros, row_filled, table_start, table_more, table_filled}
use Rattle.vectors.proofs.first_table.Goals as goal
use Rattle.vectors.proofs.first_table.Goals.{In-loop-r, After-shares, Start}

-- the rewards with any chain
abbrev held : Start → Listing → Chain
held start a = arrays start.args.sizes a start.args.rewards.now

-- the row before row r
row_before : (c : In-loop-r) (a : Listing) → get_or c.loop-r.table (c.loop-r.r - 1) [] ≡ vector (held (goal.at.In-loop-r c).Start a) 0 (c.loop-r.r - 1)
row_before c a = row_filled (held (goal.at.In-loop-r c).Start a) 0 blank c.loop-r.r (c.loop-r.r - 1) c.loop-r.table (c.loop-r.invariant.filled a) (omega arith)

pub loop-r-init : goal.loop-r-init
loop-r-init c = record { within = omega arith; filled = λ a. table_start (held (goal.at.loop-r-init c).Start a) 0 _ (omega arith) c.requires.2 c.ones.ensures }

pub shares-requires : goal.shares-requires
shares-requires c =
    (c.requires.0, vector_ticks (held (goal.at.shares-requires c).Start (listed [] [] [])) (omega arith) 0 (c.loop-r.r - 1) (row_before (goal.at.shares-requires c).In-loop-r (listed [] [] [])) (no_chain c.requires.0))

-- row r is filled too
filled : (c : After-shares) (a : Listing) → set c.loop-r.table c.loop-r.r c.shares.result ≡ over (c.loop-r.r + 1) (vector (held (goal.at.After-shares c).Start a) 0) blank
filled c a =
    let ch = held (goal.at.After-shares c).Start a in
    table_more ch 0 blank c.loop-r.r c.loop-r.table (blank_zeros 0).rows (omega arith) (c.loop-r.invariant.filled a)
    (c.shares.ensures.vector a
    ∙ ap (λ (v : List ℕ). padded ch.states (λ i. reward_share ch (get_or v i 0) i)) (row_before (goal.at.After-shares c).In-loop-r a)
    ∙ vector_first ch (omega arith) c.loop-r.r (omega arith))

pub loop-r-preserved : goal.loop-r-preserved
loop-r-preserved c = record { within = omega arith; filled = filled (goal.at.loop-r-preserved c).After-shares }

pub returns : goal.returns
returns c a = table_filled (held (goal.at.returns c).Start a) 0 blank c.args.sizes.highest c.loop-r.r c.loop-r.table (blank_zeros c.args.sizes.highest) (omega arith) (c.loop-r.invariant.filled a) (omega arith)

pub returns-2 : goal.returns-2
returns-2 c a = table_filled (held (goal.at.returns-2 c).Start a) 0 blank c.args.sizes.highest (c.loop-r.r + 1) _ (blank_zeros c.args.sizes.highest) (omega arith) (filled (goal.at.returns-2 c).After-shares a) (omega arith)
