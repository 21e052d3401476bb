-- `refusals::judge_quantities` meets its contract: rows 7, 8, 16 and 9 to 11. Past a row's test the rows after it answer. Assumes nothing.
use Rattle.std.specs.Prelude.{ℕ, ◌≡◌, List, drop}
use Rattle.std.proofs.Common.{◌∙◌, sym, ap, arith}
use Rattle.definitions.specs.Chain.{model_of, uniform_rate}
use Rattle.definitions.specs.Rules.{accepted, quantities, first_held}
use Rattle.laws.specs.RuleLaws.{row_stops, row_passes, none_left}
use Rattle.laws.specs.RowLaws.{rewards_over, rewards_within, no_reward, some_reward, sums_over, sums_within}
use Rattle.refusals.proofs.judge_quantities.Goals.{Else-misweighted, Else-most-eq0, Else-most-gt-MOST_REWARD, Else-outside, Else-without_time, Start}
use Rattle.refusals.proofs.judge_quantities.Goals as goal

abbrev file : Start → List ℕ
file start = start.args.file.now

abbrev times : Start → List ℕ
times start = start.args.times.now

-- the rows past the first k answer
abbrev Left : Start → ℕ → Type 0
Left start k =
    first_held (quantities (model_of (file start)) (times start)) (uniform_rate (model_of (file start)))
    ≡ first_held (drop k (quantities (model_of (file start)) (times start))) (uniform_rate (model_of (file start)))

-- from the place past a row's test back to the start
abbrev start7 : Else-outside → Start
start7 c = (goal.at.Else-outside c).Start

abbrev start8 : Else-without_time → Start
start8 c = start7 (goal.at.Else-without_time c).Else-outside

abbrev start16 : Else-misweighted → Start
start16 c = start8 (goal.at.Else-misweighted c).Else-without_time

abbrev start9 : Else-most-gt-MOST_REWARD → Start
start9 c = start16 (goal.at.Else-most-gt-MOST_REWARD c).Else-misweighted

abbrev start10 : Else-most-eq0 → Start
start10 c = start9 (goal.at.Else-most-eq0 c).Else-most-gt-MOST_REWARD

past_7 : (c : Else-outside) → Left (start7 c) 1
unfolding quantities
past_7 c =
    let is : c.file.inside.head ≡ c.args.file.now = c.file.view_is in
    row_passes 7 _ _ _ (rw (c.tolerance.ensures, is) at (sym c.outside.ensures ∙ c.if-outside.false))

past_8 : (c : Else-without_time) → Left (start8 c) 2
unfolding quantities
past_8 c =
    let is : c.file.inside.head ≡ c.args.file.now = c.file.view_is in
    past_7 (goal.at.Else-without_time c).Else-outside ∙ row_passes 8 _ _ _ (rw is at (sym c.without_time.ensures ∙ c.if-without_time.false))

past_16 : (c : Else-misweighted) → Left (start16 c) 3
unfolding quantities
past_16 c = past_8 (goal.at.Else-misweighted c).Else-without_time ∙ row_passes 16 _ _ _ (sym c.misweighted.ensures ∙ c.if-misweighted.false)

past_9 : (c : Else-most-gt-MOST_REWARD) → Left (start9 c) 4
unfolding quantities
past_9 c = past_16 (goal.at.Else-most-gt-MOST_REWARD c).Else-misweighted ∙ row_passes 9 _ _ _ (rewards_within (file (start9 c)) (omega arith))

past_10 : (c : Else-most-eq0) → Left (start10 c) 5
unfolding quantities
past_10 c = past_9 (goal.at.Else-most-eq0 c).Else-most-gt-MOST_REWARD ∙ row_passes 10 _ _ _ (some_reward (file (start10 c)) (omega arith))

pub returns-then-outside : goal.returns-then-outside
unfolding quantities
returns-then-outside c =
    let is : c.file.inside.head ≡ c.args.file.now = c.file.view_is in
    sym (row_stops 7 _ _ _ (rw (c.tolerance.ensures, is) at (sym c.outside.ensures ∙ c.if-outside.true)))

pub returns-then-without_time : goal.returns-then-without_time
unfolding quantities
returns-then-without_time c =
    let is : c.file.inside.head ≡ c.args.file.now = c.file.view_is in
    sym (past_7 (goal.at.returns-then-without_time c).Else-outside ∙ row_stops 8 _ _ _ (rw is at (sym c.without_time.ensures ∙ c.if-without_time.true)))

pub returns-then-misweighted : goal.returns-then-misweighted
unfolding quantities
returns-then-misweighted c = sym (past_8 (goal.at.returns-then-misweighted c).Else-without_time ∙ row_stops 16 _ _ _ (sym c.misweighted.ensures ∙ c.if-misweighted.true))

pub returns-then-most-gt-MOST_REWARD : goal.returns-then-most-gt-MOST_REWARD
unfolding quantities
returns-then-most-gt-MOST_REWARD c = sym (past_16 (goal.at.returns-then-most-gt-MOST_REWARD c).Else-misweighted ∙ row_stops 9 _ _ _ (rewards_over (file (start16 (goal.at.returns-then-most-gt-MOST_REWARD c).Else-misweighted)) (omega arith)))

pub returns-then-most-eq0 : goal.returns-then-most-eq0
unfolding quantities
returns-then-most-eq0 c = sym (past_9 (goal.at.returns-then-most-eq0 c).Else-most-gt-MOST_REWARD ∙ row_stops 10 _ _ _ (no_reward (file (start9 (goal.at.returns-then-most-eq0 c).Else-most-gt-MOST_REWARD)) (omega arith)))

pub returns-then-rate-gt-MOST_ROW_SUM : goal.returns-then-rate-gt-MOST_ROW_SUM
unfolding quantities
returns-then-rate-gt-MOST_ROW_SUM c =
    let s = file (start10 (goal.at.returns-then-rate-gt-MOST_ROW_SUM c).Else-most-eq0) in
    sym (past_10 (goal.at.returns-then-rate-gt-MOST_ROW_SUM c).Else-most-eq0 ∙ row_stops 11 _ _ _ (sums_over s (omega arith)))

pub returns : goal.returns
unfolding quantities
returns c =
    let s = file (start10 (goal.at.returns c).Else-most-eq0) in
    sym
    (past_10 (goal.at.returns c).Else-most-eq0
    ∙ row_passes 11 _ _ _ (sums_within s (omega arith))
    ∙ none_left (uniform_rate (model_of s))
    ∙ ap accepted (sym c.uniform_rate-rate.ensures))
