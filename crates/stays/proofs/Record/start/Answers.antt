-- `stays::Record::start` meets its contract. Assumes nothing.
use Rattle.std.proofs.Common.{sym, arith}
use Rattle.stays.specs.ReachedLaws.{start_fits, start_refused, start_accepted}
use Rattle.stays.proofs.Record.start.Goals as goal

pub empty-requires : goal.empty-requires
empty-requires c =
    let fits = start_fits c.args.states c.args.window (sym c.in-Ok.ensures) in
    (omega arith, omega arith, omega arith, omega arith)

pub returns-in-Ok : goal.returns-in-Ok
returns-in-Ok c = start_accepted c.args.states c.args.window _ c.in-Ok.ensures c.empty.ensures

pub returns-in-Err : goal.returns-in-Err
returns-in-Err c = start_refused c.args.states c.args.window _ c.in-Err.ensures c.empty-in-Err.ensures
