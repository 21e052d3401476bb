-- `stays::Record::rate` meets its contract. Assumes nothing.
use Rattle.std.proofs.Common.{◌-◌, get_or, sym, ap, ◌∙◌, subst, Ok, Err, arith}
use Rattle.std.proofs.lemmas.Result.{err_from_is_err_and}
use Rattle.definitions.specs.Stays.{rate_of}
use Rattle.stays.specs.Latest.{Latest}
use Rattle.stays.specs.Claims.{RateClaim}
use Rattle.stays.specs.Inner.{latest_in}
use Rattle.stays.specs.ReachedLaws.{rate_refused, pair_read, few_read, rate_read}
use Rattle.stays.proofs.Record.rate.Goals as goal

pub returns-in_err-judge_pair : goal.returns-in_err-judge_pair
returns-in_err-judge_pair c =
    let p = err_from_is_err_and c.from_residual.result c.from_residual.ensures.1 in
    let e = c.in_err-judge_pair.field-0.0 in
    rw (p.1, p.2)
    (subst (λ (r : Latest). RateClaim r c.args.from c.args.to (Err e)) c.self.view_is
    (rate_refused (latest_in c.self.inside) c.args.from c.args.to e (sym c.in_err-judge_pair.ensures)))

pub cell_of-requires : goal.cell_of-requires
cell_of-requires c =
    let p = pair_read (latest_in c.self.inside) c.args.from c.args.to (sym c.in_ok-judge_pair.ensures) in
    let most = c.self.invariant.keeps.states_max in
    (omega arith, omega arith, omega arith, omega arith)

pub rate_of-requires : goal.rate_of-requires
rate_of-requires c =
    rw c.cell_of.ensures.0 (few_read (latest_in c.self.inside) c.args.from c.args.to (sym c.in_ok-judge_pair.ensures) c.self.invariant.keeps)

pub returns : goal.returns
returns c =
    let a = c.self.inside in
    let here = c.rate_of.ensures ∙ ap (λ p. rate_of (get_or a.counts p 0) (get_or a.hours (c.args.from - 1) 0)) c.cell_of.ensures.0 in
    subst (λ (r : Latest). RateClaim r c.args.from c.args.to (Ok c.rate_of.result)) c.self.view_is
    (rate_read (latest_in a) c.args.from c.args.to (sym c.in_ok-judge_pair.ensures) c.self.invariant.keeps c.rate_of.result here)

pub overflow_sub-hours : goal.overflow_sub-hours
overflow_sub-hours c =
    omega (arith, pair_read (latest_in c.self.inside) c.args.from c.args.to (sym c.in_ok-judge_pair.ensures))

pub bounds-self-inside-i : goal.bounds-self-inside-i
bounds-self-inside-i c =
    omega (arith, pair_read (latest_in c.self.inside) c.args.from c.args.to (sym c.in_ok-judge_pair.ensures), c.self.invariant.keeps.states_max)
