-- `stays::Record::enter` meets its contract: the record with one stay more. Assumes nothing.
use Rattle.std.proofs.Common.{◌≡◌, ◌+◌, ◌*◌, ◌-◌, ◌≤◌, ◌<◌, length, get_or, ap, ◌∙◌, arith}
use Rattle.laws.specs.StayLaws.{Fine}
use Rattle.stays.specs.Latest.{Latest, entered}
use Rattle.stays.specs.LatestLaws.{count_room, hours_room}
use Rattle.stays.specs.Ring.{stay_in}
use Rattle.stays.specs.Inner.{latest_in}
use Rattle.stays.proofs.Fields.{stays_length, entered_latest, entered_sound}
use Rattle.stays.proofs.Record.enter.Goals as goal

pub overflow_add-self : goal.overflow_add-self
overflow_add-self c = omega (arith, stays_length c.self.inside, c.self.invariant.keeps.kept_max, c.self.invariant.keeps.window_max)

pub overflow_add-self-2 : goal.overflow_add-self-2
overflow_add-self-2 c =
    let room : c.self.inside.kept < c.self.inside.window = omega (arith, stays_length c.self.inside, ap (λ (r : Latest). length r.stays) c.self.view_is, ap (λ (r : Latest). r.window) c.self.view_is) in
    let fine : Fine c.self.inside.states (stay_in c.args.stay) = rw (ap (λ (r : Latest). r.states) c.self.view_is) c.requires.1 in
    let at : c.cell_of.result ≡ c.args.stay.from * 64 + c.args.stay.to - 65 = omega arith in
    let few : get_or c.self.inside.counts c.cell_of.result 0 ≤ 256
    = rw at (count_room (latest_in c.self.inside) c.self.invariant.keeps (omega (arith, stays_length c.self.inside)) (stay_in c.args.stay) fine) in
    omega arith

pub overflow_add-self-3 : goal.overflow_add-self-3
overflow_add-self-3 c =
    let room : c.self.inside.kept < c.self.inside.window = omega (arith, stays_length c.self.inside, ap (λ (r : Latest). length r.stays) c.self.view_is, ap (λ (r : Latest). r.window) c.self.view_is) in
    let fine : Fine c.self.inside.states (stay_in c.args.stay) = rw (ap (λ (r : Latest). r.states) c.self.view_is) c.requires.1 in
    let few : get_or c.self.inside.hours (c.from-i.result - 1) 0 ≤ 2560000
    = rw c.from-i.ensures (hours_room (latest_in c.self.inside) c.self.invariant.keeps (omega (arith, stays_length c.self.inside)) (stay_in c.args.stay) fine) in
    omega (arith, fine.hours_high)

pub invariant_of-self : goal.invariant_of-self
invariant_of-self c =
    let room : c.self.inside.kept < c.self.inside.window = omega (arith, stays_length c.self.inside, ap (λ (r : Latest). length r.stays) c.self.view_is, ap (λ (r : Latest). r.window) c.self.view_is) in
    let fine : Fine c.self.inside.states (stay_in c.args.stay) = rw (ap (λ (r : Latest). r.states) c.self.view_is) c.requires.1 in
    let at : c.cell_of.result ≡ c.args.stay.from * 64 + c.args.stay.to - 65 = omega arith in
    entered_sound c.self.inside c.self.invariant room c.args.stay fine c.following-self-inside.result c.from-i.result c.cell_of.result c.from.result c.following-self-inside.ensures c.from-i.ensures at c.from.ensures

pub returns : goal.returns
returns c =
    let room : c.self.inside.kept < c.self.inside.window = omega (arith, stays_length c.self.inside, ap (λ (r : Latest). length r.stays) c.self.view_is, ap (λ (r : Latest). r.window) c.self.view_is) in
    let fine : Fine c.self.inside.states (stay_in c.args.stay) = rw (ap (λ (r : Latest). r.states) c.self.view_is) c.requires.1 in
    let at : c.cell_of.result ≡ c.args.stay.from * 64 + c.args.stay.to - 65 = omega arith in
    entered_latest c.self.inside c.self.invariant room c.args.stay fine c.following-self-inside.result c.from-i.result c.cell_of.result c.from.result c.following-self-inside.ensures c.from-i.ensures at c.from.ensures ∙ ap (λ (r : Latest). entered r (stay_in c.args.stay)) c.self.view_is
