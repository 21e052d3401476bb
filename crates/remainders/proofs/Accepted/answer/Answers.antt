-- `remainders::Accepted::answer` meets its contract. Assumes nothing.
use mathlib.Core.Path.{◌≡◌, ◌∙◌, sym, ap, ap₂}
use mathlib.Core.Bool.{◌||◌}
use Rattle.std.specs.Prelude.{ℕ, Some}
use Rattle.definitions.specs.declared.Sizes.{Sizes}
use Rattle.definitions.specs.declared.Rests.{Rests}
use Rattle.definitions.specs.Chain.{model_of}
use Rattle.definitions.specs.Rules.{outside}
use Rattle.definitions.specs.Remainders.{any_outside}
use Rattle.laws.specs.RemainderLaws.{rests_none, rests_given, inside}
use Rattle.remainders.proofs.Accepted.answer.Goals as goal
use Rattle.remainders.proofs.Accepted.answer.Goals.{After-is_outside}

-- the test is that of the file's model
tested : (c : After-is_outside) →
    let args = c.args in
    c.is_outside.result ≡ any_outside (model_of args.self.now.file) args.asked.state args.asked.n args.asked.r
tested c =
    let args = c.args in
    c.is_outside.ensures
    ∙ ap₂ (λ (z : Sizes) (N : ℕ). outside 1 z.states args.asked.state || outside 1 N args.asked.n || outside 1 z.highest args.asked.r) c.args.self.now.sizes_value c.level.ensures

pub returns-then-is_outside : goal.returns-then-is_outside
returns-then-is_outside c =
    let args = c.args in
    sym (rests_none (model_of args.self.now.file) args.asked.state args.asked.n args.asked.r (sym (tested (goal.at.returns-then-is_outside c).After-is_outside) ∙ c.if-is_outside.true))

pub rests-requires : goal.rests-requires
rests-requires c =
    let args = c.args in
    inside (model_of args.self.now.file) args.asked.state args.asked.n args.asked.r (sym (tested (goal.at.rests-requires c).After-is_outside) ∙ c.if-is_outside.false)

pub returns : goal.returns
returns c =
    let args = c.args in
    ap (λ (x : Rests). Some x) c.rests.ensures
    ∙ sym (rests_given (model_of args.self.now.file) args.asked.state args.asked.n args.asked.r (sym (tested (goal.at.returns c).After-is_outside) ∙ c.if-is_outside.false))
