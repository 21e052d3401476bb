-- At n the table holds the vectors of n − 1, and their row means are counted.
use Rattle.std.proofs.Common.{◌≡◌, refl, sym, ℕ, ◌+◌, ◌-◌, ◌*◌, ◌≤◌, arith}
use Rattle.definitions.specs.Vectors.{row_means}
use Rattle.laws.specs.ArrayLaws.{zeros}
use Rattle.laws.specs.VectorLaws.{means_none, means_next, means_max}
use Rattle.vectors.specs.Table.{blank}
use Rattle.vectors.specs.Lent.{listing_of}
use Rattle.vectors_cases.proofs.tables.Goals as goal

pub first_table-requires : goal.first_table-requires
unfolding blank zeros
first_table-requires c = (c.args.chain.now.ready.rewards, c.requires.0, refl)

pub loop-n-init : goal.loop-n-init
loop-n-init c =
    let z = c.args.chain.now.rows.sizes in
    record {
      low = omega arith;
      within = omega arith;
      counted = sym (means_none z.states z.highest);
      filled = c.first_table.ensures (listing_of c.args.chain.now.rows);
    }

-- the row means of one n more
counted : (n M R : ℕ) → 1 ≤ n → row_means (n - 1) M R + M * R ≡ row_means n M R
counted n M R low =
    let all : n - 1 + 1 ≡ n = omega arith in
    sym (rw all at (means_next (n - 1) M R))

pub next_table-requires-clause-in_range : goal.next_table-requires-clause-in_range
next_table-requires-clause-in_range c =
    let z = c.args.chain.now.rows.sizes in
    let turn = c.loop-n in
    let room = means_max turn.n z.states z.highest (omega arith) c.args.chain.now.ready.rewards.states_max c.requires.0 in
    (c.requires.0, omega arith, omega arith, omega (arith, turn.invariant.counted, counted turn.n z.states z.highest (omega arith), room))

pub next_table-requires-clause-table_value : goal.next_table-requires-clause-table_value
next_table-requires-clause-table_value c = c.loop-n.invariant.filled

pub loop-n-preserved : goal.loop-n-preserved
loop-n-preserved c =
    let z = c.args.chain.now.rows.sizes in
    let turn = c.loop-n in
    let back : turn.n + 1 - 1 ≡ turn.n = omega arith in
    record {
      low = omega arith;
      within = omega arith;
      counted = rw back (omega (arith, c.next_table.ensures.taken, turn.invariant.counted, counted turn.n z.states z.highest (omega arith)));
      filled = rw back c.next_table.ensures.table;
    }
