-- `stays::Record::make_room` meets its contract. Assumes nothing.
use Rattle.std.proofs.Common.{refl, subst, arith, eq-eqb, ne_eqb}
use Rattle.stays.specs.Latest.{Keeps}
use Rattle.stays.specs.LatestLaws.{left_length}
use Rattle.stays.proofs.Fields.{full_seen, other_seen}
use Rattle.stays.proofs.Record.make_room.Goals as goal

pub leave-requires : goal.leave-requires
leave-requires c = full_seen c.self.inside c.args.self.now c.self.view_is c.if-self.true

pub returns-then-self-clause-room : goal.returns-then-self-clause-room
returns-then-self-clause-room c =
    let now = c.args.self.now in
    let keeps = subst Keeps c.self.view_is c.self.invariant.keeps in
    rw c.leave.ensures (omega (arith, left_length now keeps (full_seen c.self.inside now c.self.view_is c.if-self.true), keeps.window_low))

pub returns-then-self-clause-latest : goal.returns-then-self-clause-latest
returns-then-self-clause-latest c = rw (eq-eqb _ _ (full_seen c.self.inside c.args.self.now c.self.view_is c.if-self.true)) c.leave.ensures

pub returns-else-self-clause-room : goal.returns-else-self-clause-room
returns-else-self-clause-room c =
    let keeps = subst Keeps c.self.view_is c.self.invariant.keeps in
    omega (arith, keeps.kept_max, other_seen c.self.inside c.args.self.now c.self.view_is c.if-self.false)

pub returns-else-self-clause-latest : goal.returns-else-self-clause-latest
returns-else-self-clause-latest c = rw (ne_eqb _ _ (other_seen c.self.inside c.args.self.now c.self.view_is c.if-self.false)) refl
