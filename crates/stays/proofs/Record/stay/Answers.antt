-- `stays::Record::stay` meets its contract. Assumes nothing.
use Rattle.std.proofs.Common.{sym, ap, ◌∙◌, subst, Ok, Err, arith}
use Rattle.std.proofs.lemmas.Result.{err_from_is_err_and}
use Rattle.definitions.specs.Refusal.{row_of}
use Rattle.definitions.specs.Rules.{accepted, refused}
use Rattle.definitions.specs.Stays.{stay_of}
use Rattle.laws.specs.StayLaws.{Fine, fine_by}
use Rattle.stays.specs.Latest.{Latest, pushed}
use Rattle.stays.specs.Claims.{StayClaim}
use Rattle.stays.specs.Inner.{latest_in}
use Rattle.stays.specs.ReachedLaws.{stayed_by, stay_claim}
use Rattle.stays.proofs.Record.stay.Goals as goal
use Rattle.stays.proofs.Record.stay.Goals.{In_ok-judge_stay}

-- a stay that is taken is fine
fine : (c : In_ok-judge_stay) → Fine c.self.inside.states (stay_of c.args.from c.args.to c.args.hours)
fine c = fine_by _ _ (sym c.in_ok-judge_stay.ensures)

pub returns-in_err-judge_stay : goal.returns-in_err-judge_stay
returns-in_err-judge_stay c =
    let p = err_from_is_err_and c.from_residual.result c.from_residual.ensures.1 in
    let r = latest_in c.self.inside in
    let s = stay_of c.args.from c.args.to c.args.hours in
    let e = c.in_err-judge_stay.field-0.0 in
    let answers = c.in_err-judge_stay.ensures in
    rw (p.1, p.2)
    (subst (λ (x : Latest). StayClaim x s (Err e) c.args.self.now) c.self.view_is
    (stay_claim r s (Err e) c.args.self.now answers (sym c.self.view_is ∙ sym (stayed_by r s (refused (row_of e)) (sym answers))) c.self.invariant.keeps))

pub overflow_cast-from : goal.overflow_cast-from
overflow_cast-from c = omega (arith, fine (goal.at.overflow_cast-from c).In_ok-judge_stay, c.self.invariant.keeps.states_max)

pub overflow_cast-to : goal.overflow_cast-to
overflow_cast-to c = omega (arith, fine (goal.at.overflow_cast-to c).In_ok-judge_stay, c.self.invariant.keeps.states_max)

pub overflow_cast-hours : goal.overflow_cast-hours
overflow_cast-hours c = omega (arith, fine (goal.at.overflow_cast-hours c).In_ok-judge_stay)

pub push-requires : goal.push-requires
push-requires c = grind (arith, fine (goal.at.push-requires c).In_ok-judge_stay, ap (λ (x : Latest). x.states) c.self.view_is)

pub returns : goal.returns
returns c =
    let r = latest_in c.self.inside in
    let s = stay_of c.args.from c.args.to c.args.hours in
    let answers = c.in_ok-judge_stay.ensures in
    subst (λ (x : Latest). StayClaim x s (Ok tt) c.push.new.self) c.self.view_is
    (stay_claim r s (Ok tt) c.push.new.self answers (c.push.ensures ∙ ap (λ (x : Latest). pushed x s) (sym c.self.view_is) ∙ sym (stayed_by r s (accepted tt) (sym answers))) c.self.invariant.keeps)
