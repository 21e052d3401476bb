-- `stays::Record::empty` meets its contract. Assumes nothing.
use Rattle.std.proofs.Common.{rules}
use Rattle.stays.proofs.Fields.{empty_latest, empty_sound}
use Rattle.stays.proofs.Record.empty.Goals as goal

pub invariant_of-result : goal.invariant_of-result
invariant_of-result c = empty_sound c.args.states c.args.window _ (search rules) c.requires.0 c.requires.1 c.requires.2 c.requires.3

pub returns : goal.returns
returns c = empty_latest c.args.states c.args.window _
