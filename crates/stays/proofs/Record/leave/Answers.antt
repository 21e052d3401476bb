-- `stays::Record::leave` meets its contract: the record without its oldest stay. Assumes nothing.
use Rattle.std.proofs.Common.{◌≡◌, ◌+◌, ◌*◌, ◌-◌, ◌≤◌, get_or, ap, ◌∙◌, arith}
use Rattle.definitions.specs.Stays.{Stay}
use Rattle.stays.specs.Latest.{oldest, left}
use Rattle.stays.specs.Inner.{latest_in}
use Rattle.stays.proofs.Fields.{Read, is_full, oldest_here, read_oldest, left_latest, left_sound}
use Rattle.stays.proofs.Record.leave.Goals as goal
use Rattle.stays.proofs.Record.leave.Goals.{After-from-j}

-- what is read of the oldest
read : (c : After-from-j) → Read (oldest (latest_in c.self.inside)) c.self.inside.counts c.self.inside.hours c.from-i.result c.from-j.result
read c =
    read_oldest c.self.inside c.self.invariant (is_full c.self.inside c.args.self.now c.self.view_is c.requires) c.from-i.result c.from-j.result c.from-i.ensures c.from-j.ensures

pub overflow_sub-self : goal.overflow_sub-self
overflow_sub-self c = omega (arith, is_full c.self.inside c.args.self.now c.self.view_is c.requires, c.self.invariant.keeps.window_low)

pub cell_of-requires : goal.cell_of-requires
cell_of-requires c =
    let facts = read (goal.at.cell_of-requires c).After-from-j in
    (facts.i_low, facts.i_high, facts.j_low, facts.j_high)

pub overflow_sub-self-2 : goal.overflow_sub-self-2
overflow_sub-self-2 c =
    let facts = read (goal.at.cell_of-requires c.before.before).After-from-j in
    let counted : 1 ≤ get_or c.self.inside.counts c.cell_of.result 0 = rw c.cell_of.ensures.0 facts.counted_in in
    omega arith

pub overflow_sub-self-3 : goal.overflow_sub-self-3
overflow_sub-self-3 c =
    omega
    (arith, read (goal.at.overflow_sub-self-3 c).After-from-j)

pub bounds-self-inside-i : goal.bounds-self-inside-i
bounds-self-inside-i c =
    omega
    (arith, read (goal.at.bounds-self-inside-i c).After-from-j)

pub overflow_sub-self-4 : goal.overflow_sub-self-4
overflow_sub-self-4 c =
    omega
    (arith, read (goal.at.overflow_sub-self-4 c).After-from-j, ap (λ (s : Stay). s.hours) (oldest_here c.self.inside c.self.invariant (is_full c.self.inside c.args.self.now c.self.view_is c.requires)))

pub bounds-self-inside-i-2 : goal.bounds-self-inside-i-2
bounds-self-inside-i-2 c =
    omega
    (arith, read (goal.at.bounds-self-inside-i-2 c).After-from-j)

pub invariant_of-self : goal.invariant_of-self
invariant_of-self c =
    let full = is_full c.self.inside c.args.self.now c.self.view_is c.requires in
    let facts = read_oldest c.self.inside c.self.invariant full c.from-i.result c.from-j.result c.from-i.ensures c.from-j.ensures in
    let span : c.from.result ≡ (oldest (latest_in c.self.inside)).hours = c.from.ensures ∙ ap (λ (s : Stay). s.hours) (oldest_here c.self.inside c.self.invariant full) in
    let at : c.cell_of.result ≡ (oldest (latest_in c.self.inside)).from * 64 + (oldest (latest_in c.self.inside)).to - 65 = omega (arith, facts) in
    left_sound c.self.inside c.self.invariant full c.from-i.result c.cell_of.result c.from.result facts.is_i at span

pub returns : goal.returns
returns c =
    let full = is_full c.self.inside c.args.self.now c.self.view_is c.requires in
    let facts = read_oldest c.self.inside c.self.invariant full c.from-i.result c.from-j.result c.from-i.ensures c.from-j.ensures in
    let span : c.from.result ≡ (oldest (latest_in c.self.inside)).hours = c.from.ensures ∙ ap (λ (s : Stay). s.hours) (oldest_here c.self.inside c.self.invariant full) in
    let at : c.cell_of.result ≡ (oldest (latest_in c.self.inside)).from * 64 + (oldest (latest_in c.self.inside)).to - 65 = omega (arith, facts) in
    left_latest c.self.inside c.self.invariant full c.from-i.result c.cell_of.result c.from.result facts.is_i at span ∙ ap left c.self.view_is
