-- `deal` meets its contract: what is dealt is dealt for what the texts say. Assumes nothing.
use Rattle.std.proofs.Common.{◌≡◌, ◌∙◌, ℕ, sym, ap, refl, arith, Some, None, Ok, Err}
use Rattle.std.specs.Prelude.{Result}
use Rattle.std.specs.Result.{MatchResult, IsErrAnd}
use Rattle.std.proofs.lemmas.Result.{err_from_is_err_and}
use Rattle.definitions.specs.declared.Refusal.{Refusal}
use Rattle.definitions.specs.declared.NotDealt.{NotDealt}
use Rattle.definitions.specs.declared.NotDealt.TheVariants.{Refused}
use Rattle.definitions.specs.Dealing.{dealing_answer, seed_in}
use Rattle.definitions.specs.Rules.{saying, answer_of}
use Rattle.laws.specs.DealingLaws.{by_seed, for_seed, for_none}
use Rattle.numerals.specs.Reading.{at_most}
use Rattle.deal.proofs.deal.Goals as goal
use Rattle.deal.proofs.deal.Goals.{In-Some, In_default}

-- the seed number that the text says
said : (c : In-Some) → seed_in c.args.seed.now ≡ Some c.in-Some.n
unfolding seed_in
said c = sym c.number_of.ensures ∙ c.in-Some.is

-- where the text says no number, there is no seed number
none_said : (c : In_default) → seed_in c.args.seed.now ≡ None
unfolding seed_in
none_said c = sym c.in_default.ensures

-- what is handed on says the same:
-- a refusal its row, and a file its count
handed_on : (r : Result ℕ Refusal) (o : Result ℕ NotDealt) → MatchResult r (λ x. o ≡ Ok x) (λ e. IsErrAnd o (λ d. d ≡ Refused e)) → dealing_answer o ≡ saying Some (answer_of r)
handed_on (Ok x) o h = rw h
handed_on (Err e) o h = let is = err_from_is_err_and o h in rw (is.1, is.2)

pub overflow_cast-n : goal.overflow_cast-n
unfolding seed_in
overflow_cast-n c = omega (arith, at_most _ _ _ (said c))

pub returns-in_err-judge_dimensions : goal.returns-in_err-judge_dimensions
unfolding seed_in
returns-in_err-judge_dimensions c =
    let is = err_from_is_err_and c.from_residual.result c.from_residual.ensures.1 in
    rw (is.1, is.2) (for_none (ap (saying (λ x. None)) c.in_err-judge_dimensions.ensures) (sym c.in_default.ensures) c.dimension-m.ensures c.dimension-r.ensures)

pub returns-in_default : goal.returns-in_default
unfolding seed_in
returns-in_default c =
    for_none (ap (saying (λ x. None)) c.in_ok-judge_dimensions.ensures) (sym c.in_default.ensures) c.dimension-m.ensures c.dimension-r.ensures

pub returns : goal.returns
returns c =
    let practice = c.practice.ensures in
    let answer = handed_on _ _ c.map_err.ensures.cases in
    for_seed (by_seed _ _ _ practice.answer answer practice.bytes practice.dealt) (said (goal.at.returns c).In-Some) c.dimension-m.ensures c.dimension-r.ensures refl
