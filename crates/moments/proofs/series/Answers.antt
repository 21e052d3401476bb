-- A refused list touches no level and no cell; an accepted one has its levels and blocks filled. They are those of runs, demand 3 holds of them, the
-- levels' bound, and the order of the figures.
use Rattle.std.proofs.Common.{◌≡◌, refl, sym, ◌∙◌, ap, subst, length, Err, rules}
use Rattle.definitions.specs.Rules.{accepted, series_judgement}
use Rattle.definitions.specs.Series.{levels_after, blocks_after}
use Rattle.definitions.specs.Order.{NoBlockRises}
use Rattle.laws.specs.Acceptance.{accepted_series}
use Rattle.laws.specs.SeriesLaws.{series_runs, series_refused, series_accepted}
use Rattle.laws.proofs.SeriesLaws.{series_promised, series_bounded}
use Rattle.laws.proofs.OrderLaws.{no_block_rises}
use Rattle.laws.proofs.RewardLaws.{no_block_lowered}
use Rattle.refusals.specs.Verdict.{verdict}
use Rattle.moments.proofs.series.Goals as goal
use Rattle.moments.proofs.series.Goals.{After-from_residual, In_ok-model}

-- the list is refused: by the row that was told
gave : (c : After-from_residual) → c.from_residual.result ≡ Err c.in_err-model.field-0.0
gave c = search rules

pub returns-in_err-model-clause-answer : goal.returns-in_err-model-clause-answer
returns-in_err-model-clause-answer c = rw (gave c) (sym (series_refused _ c.args.times.now _ _ _ (sym c.judge_series.ensures.judged ∙ ap verdict c.in_err-model.was)))

pub returns-in_err-model-clause-levels : goal.returns-in_err-model-clause-levels
unfolding levels_after
returns-in_err-model-clause-levels c = rw (gave c) refl

pub returns-in_err-model-clause-cells : goal.returns-in_err-model-clause-cells
unfolding blocks_after
returns-in_err-model-clause-cells c = rw (gave c) refl

-- the list is accepted
passed : (c : In_ok-model) → series_judgement c.args.file.now c.args.times.now (length c.args.levels.now) (length c.args.cells.now) ≡ accepted tt
passed c = sym c.in_ok-model.ensures.judged

pub fill-requires : goal.fill-requires
fill-requires c = rw c.in_ok-model.ensures.same (accepted_series _ _ _ _ (passed (goal.at.fill-requires c).In_ok-model))

pub returns : goal.returns
returns c =
    let s = c.args.file.now in
    let times = c.args.times.now in
    let levels = c.args.levels.now in
    let cells = c.args.cells.now in
    let pass = passed (goal.at.returns c).In_ok-model in
    let filled = rw c.in_ok-model.ensures.same at c.fill.ensures in
    let n = c.fill.result in
    let answer = ap accepted filled.means ∙ sym (series_accepted s times (length levels) (length cells) pass) in
    let order = subst (NoBlockRises (accepted n) s times) (sym filled.cells) (no_block_rises s times cells n) in
    record {
      answer = answer;
      levels = filled.levels;
      cells = filled.cells;
      promise = rw (filled.levels, filled.cells) (series_promised s times levels cells n pass);
      runs = rw (filled.levels, filled.cells) (series_runs s times levels cells n pass);
      bounded = rw filled.levels (series_bounded s times levels (length cells) n pass);
      order = order;
      raised = rw (filled.levels, filled.cells) (no_block_lowered s times levels cells n (sym answer));
    }
