-- `vectors::LentChain::next_table` meets its contract. The invariant: the rows below r are U(n,0), U(n,1), …, the rows from r on are still those of
-- n − 1, and each row passed took a row mean for every state. Assumes nothing.
use Rattle.std.proofs.Common.{◌≡◌, ap₂, ◌∙◌, List, [], ℕ, ◌+◌, ◌-◌, ◌≤◌, get_or, mul-le-mul_left, arith}
use Rattle.std.proofs.Math.ListN.{set}
use Rattle.definitions.specs.Sums.{over}
use Rattle.definitions.specs.Chain.{Chain, padded}
use Rattle.definitions.specs.Vectors.{next_entry, vector}
use Rattle.laws.specs.ArrayLaws.{entry_of}
use Rattle.vectors.specs.Lent.{chain_in}
use Rattle.vectors.specs.StepLaws.{vector_ticks, vector_next}
use Rattle.vectors.specs.Table.{table_of}
use Rattle.vectors.specs.TableLaws.{table_zeros, row_filled, row_to_come, rows_start, table_more, table_filled}
use Rattle.vectors.proofs.LentChain.next_table.Goals as goal
use Rattle.vectors.proofs.LentChain.next_table.Goals.{In-loop-r, After-step, Start}

-- the chain that the arrays hold, its highest moment, and the table handed in
module _ (c : Start) where
  abbrev ch : Chain
  ch = chain_in c.args.self.now

  abbrev R : ℕ
  R = c.args.self.now.rows.sizes.highest

  abbrev old : List (List ℕ)
  old = table_of ch R (c.args.n - 1)

  few : ch.states ≤ 64
  few = c.args.self.now.ready.rewards.states_max

pub loop-r-init : goal.loop-r-init
loop-r-init c =
    let start = (goal.at.loop-r-init c).Start in
    record {
      within = omega arith;
      counted = omega arith;
      filled = c.requires.table_value ∙ rows_start (ch start) (R start) c.args.n (c.args.n - 1) (omega arith) (few start);
    }

module _ (c : In-loop-r) where
  abbrev start : Start
  start = (goal.at.In-loop-r c).Start

  -- row r is still that of n − 1
  row_before : get_or c.loop-r.table c.loop-r.r [] ≡ vector (ch start) (c.args.n - 1) c.loop-r.r
  row_before = row_to_come (ch start) (R start) c.args.n (c.args.n - 1) (omega arith) c.loop-r.r c.loop-r.r c.loop-r.table c.loop-r.invariant.filled (omega arith) (omega arith)

  -- and the row before it is of n
  row_same : get_or c.loop-r.table (c.loop-r.r - 1) [] ≡ vector (ch start) c.args.n (c.loop-r.r - 1)
  row_same = row_filled (ch start) c.args.n (old start) c.loop-r.r (c.loop-r.r - 1) c.loop-r.table c.loop-r.invariant.filled (omega arith)

pub step-requires : goal.step-requires
step-requires c =
    let turn = (goal.at.step-requires c).In-loop-r in
    let begun = (goal.at.step-requires c).Start in
    let given = c.args.self.now.ready in
    let last : c.loop-r.r ≤ R begun = omega arith in (
      record {
        indices = record { jumps_max = omega arith; moment_max = omega arith; some = omega arith };
        before_ticks = vector_ticks (ch begun) (few begun) (c.args.n - 1) c.loop-r.r (row_before turn) given.stochastic;
        same_ticks = vector_ticks (ch begun) (few begun) c.args.n (c.loop-r.r - 1) (row_same turn) given.stochastic;
      },
      omega (arith, c.loop-r.invariant.counted, mul-le-mul_left (ch begun).states last),
    )

-- row r is filled too
filled : (c : After-step) → set c.loop-r.table c.loop-r.r c.step.result ≡ over (c.loop-r.r + 1) (vector (ch (goal.at.After-step c).Start) c.args.n) (old (goal.at.After-step c).Start)
filled c =
    let turn = (goal.at.After-step c).In-loop-r in
    let begun = (goal.at.After-step c).Start in
    table_more (ch begun) c.args.n (old begun) c.loop-r.r c.loop-r.table (table_zeros (ch begun) (R begun) (c.args.n - 1) (omega arith)).rows (omega arith) c.loop-r.invariant.filled
    (c.step.ensures.vector
    ∙ ap₂ (λ (a b : List ℕ). padded (ch begun).states (next_entry (ch begun) c.args.n c.loop-r.r (entry_of a) (entry_of b))) (row_before turn) (row_same turn)
    ∙ vector_next (ch begun) (few begun) c.args.n c.loop-r.r (omega arith) (omega arith))

pub loop-r-preserved : goal.loop-r-preserved
loop-r-preserved c = record { within = omega arith; counted = omega (arith, c.step.ensures.taken); filled = filled (goal.at.loop-r-preserved c).After-step }

pub returns : goal.returns
returns c =
    let begun = (goal.at.returns c).Start in
    let all : c.loop-r.r ≡ R begun + 1 = omega arith in
    record {
      table = table_filled (ch begun) c.args.n (old begun) (R begun) c.loop-r.r c.loop-r.table (table_zeros (ch begun) (R begun) (c.args.n - 1) (omega arith)) (omega arith) c.loop-r.invariant.filled all;
      taken = omega (arith, rw all at c.loop-r.invariant.counted);
    }

pub returns-2 : goal.returns-2
returns-2 c =
    let begun = (goal.at.returns-2 c).Start in
    let all : c.loop-r.r ≡ R begun = omega arith in
    record {
      table = table_filled (ch begun) c.args.n (old begun) (R begun) (c.loop-r.r + 1) _ (table_zeros (ch begun) (R begun) (c.args.n - 1) (omega arith)) (omega arith) (filled (goal.at.returns-2 c).After-step) (omega arith);
      taken = omega (arith, c.step.ensures.taken, rw all at c.loop-r.invariant.counted);
    }
