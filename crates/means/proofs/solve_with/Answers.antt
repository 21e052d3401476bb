-- The weights and levels, the sums and their quotients, one after the other.
use Rattle.std.proofs.Common.{◌∙◌, ◌≤◌, length, arith}
use Rattle.vectors.specs.Lent.{listing_of}
use Rattle.means.specs.SolvingLaws.{topmost, summable, used_room, divisible, means_are}
use Rattle.means.proofs.solve_with.Goals as goal

pub accumulate-taken-requires : goal.accumulate-taken-requires
accumulate-taken-requires c =
    let cut = c.truncate_each-largest.ensures in
    let z = c.args.chain.now.rows.sizes in
    let a = listing_of c.args.chain.now.rows in
    let ready = c.args.chain.now.ready in
    let room = c.requires.xs_in_bounds in
    (summable z a _ _ _ ready c.requires.solvable _ _ _ _ _ _ _ cut room.1 room.0, topmost z a _ _ _ ready c.requires.solvable _ _ _ _ _ _ _ cut room.1 room.0, used_room z a _ _ _ ready c.requires.solvable _ _ _ _ _ _ _ cut room.1 room.0 c.args.cells.now room.2)

-- there is a total for each X
pub divide_blocks-requires : goal.divide_blocks-requires
divide_blocks-requires c =
    let many : length c.args.xs.now ≤ length c.truncate_each-largest.new.totals = omega (arith, c.requires.solvable.truncatable.count_max, c.truncate_each-largest.auto.totals) in
    divisible c.args.chain.now.rows.sizes (listing_of c.args.chain.now.rows) _ _ _ c.args.chain.now.ready c.requires.solvable _ _ _ _ _ _ _ c.truncate_each-largest.ensures c.requires.xs_in_bounds.1 c.requires.xs_in_bounds.0 c.args.cells.now c.requires.xs_in_bounds.2 many _ c.accumulate-taken.ensures.cells

pub returns-clause-weights : goal.returns-clause-weights
returns-clause-weights c = c.truncate_each-largest.ensures.are_weights

pub returns-clause-cells : goal.returns-clause-cells
returns-clause-cells c =
    let many : length c.args.xs.now ≤ length c.truncate_each-largest.new.totals = omega (arith, c.requires.solvable.truncatable.count_max, c.truncate_each-largest.auto.totals) in
    c.divide_blocks.ensures
    ∙ means_are c.args.chain.now.rows.sizes (listing_of c.args.chain.now.rows) _ _ _ c.args.chain.now.ready c.requires.solvable _ _ _ _ _ _ _ c.truncate_each-largest.ensures c.requires.xs_in_bounds.1 c.requires.xs_in_bounds.0 c.args.cells.now c.requires.xs_in_bounds.2 many _ c.accumulate-taken.ensures.cells
