-- `stays::Record::push` meets its contract. Assumes nothing.
use Rattle.std.proofs.Common.{ap, ◌∙◌}
use Rattle.stays.specs.Latest.{Latest, entered, pushed}
use Rattle.stays.specs.Ring.{stay_in}
use Rattle.stays.proofs.Record.push.Goals as goal

pub returns : goal.returns
unfolding pushed
returns c = c.enter.ensures ∙ ap (λ (r : Latest). entered r (stay_in c.args.stay)) c.make_room.ensures.latest
