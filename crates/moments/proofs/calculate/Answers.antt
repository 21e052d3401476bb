-- A refused file touches no cell; an accepted one has its cells filled. Demand 3 holds of them, the level's bound, and the order of the figures.
use Rattle.std.proofs.Common.{◌≡◌, refl, sym, ◌∙◌, ap, subst, length, Err, rules}
use Rattle.definitions.specs.declared.Run.{Run}
use Rattle.definitions.specs.Chain.{model_of}
use Rattle.definitions.specs.Rules.{accepted, judgement}
use Rattle.definitions.specs.Moment.{cells_after, LevelBounded}
use Rattle.definitions.specs.Promise.{Promised}
use Rattle.definitions.specs.Order.{NoRise}
use Rattle.laws.specs.Acceptance.{accepted_file}
use Rattle.laws.specs.MomentLaws.{outcome_refused, outcome_accepted}
use Rattle.laws.proofs.MomentLaws.{level_bounded}
use Rattle.laws.proofs.Demand3.{demand3}
use Rattle.laws.proofs.OrderLaws.{none_rises}
use Rattle.laws.proofs.RewardLaws.{none_lowered}
use Rattle.moments.proofs.calculate.Goals as goal
use Rattle.moments.proofs.calculate.Goals.{In_ok-model}

pub returns-in_err-model : goal.returns-in_err-model
unfolding cells_after
returns-in_err-model c =
    let gave : c.from_residual.result ≡ Err c.in_err-model.field-0.0 = search rules in
    rw gave
    (record {
      outcome = sym (outcome_refused c.args.file.now (length c.args.cells.now) _ (sym c.in_err-model.ensures.judged));
      cells = refl;
      promise = tt;
      bounded = tt;
      order = tt;
      raised = tt;
    })

-- the file is accepted
passed : (c : In_ok-model) → judgement c.args.file.now (length c.args.cells.now) ≡ accepted tt
passed c = sym c.in_ok-model.ensures.judged

pub fill_own-requires : goal.fill_own-requires
fill_own-requires c = rw c.in_ok-model.ensures.same (accepted_file _ _ (passed (goal.at.fill_own-requires c).In_ok-model))

pub returns : goal.returns
returns c =
    let s = c.args.file.now in
    let cells = c.args.cells.now in
    let pass = passed (goal.at.returns c).In_ok-model in
    let filled = rw c.in_ok-model.ensures.same at c.fill_own.ensures in
    let run = filled.0 in
    let after = filled.1 in
    let promised = subst (λ (x : Run). Promised (accepted x) s (cells_after (accepted x) s cells)) (sym run) (demand3 s cells pass) in
    let bounded = subst (λ (x : Run). LevelBounded (accepted x.level) s) (sym run) (level_bounded (model_of s) (accepted_file s (length cells) pass).model.limits) in
    let answer = ap accepted run ∙ sym (outcome_accepted s (length cells) pass) in
    record {
      outcome = answer;
      cells = after;
      promise = rw after promised;
      bounded = bounded;
      order = subst (NoRise (model_of s)) (sym after) (none_rises s cells _);
      raised = rw after (none_lowered s cells _ (sym answer));
    }
