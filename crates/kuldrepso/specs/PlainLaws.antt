-- The plain answer of a call says what its outcome says: whether it accepts, and the number.
use Rattle.std.specs.Prelude.{ℕ, ◌+◌, ◌≤◌, ◌<◌, ◌≡◌, refl, List, length, Option, None, Some}
use Rattle.std.proofs.Common.{arith, sym, ◌∙◌, ap, lt-ltb, le-ltb}
use Rattle.definitions.specs.declared.Rests.{Rests}
use Rattle.definitions.specs.declared.Run.{Run}
use Rattle.definitions.specs.Chain.{model_of}
use Rattle.definitions.specs.Rules.{Answer, accepted, refused, saying, file_judgement}
use Rattle.definitions.specs.Moment.{model_level, run_of, outcome}
use Rattle.definitions.specs.Series.{series_outcome}
use Rattle.definitions.specs.Written.{count_of}
use Rattle.laws.specs.Acceptance.{length_max, accepted_model, accepted_file, accepted_series}
use Rattle.laws.specs.MomentLaws.{outcome_accepted, run_judged}
use Rattle.laws.proofs.MomentLaws.{level_range}
use Rattle.laws.specs.SeriesLaws.{series_judged}
use Rattle.kuldrepso.specs.Plain.{refusals_from, plain_answer, given_or_none, meant, Tells}

-- a number that is an answer's own tells it, where that number stands for the answer
pub telling : {r : ℕ} (a : Answer ℕ) → r ≡ plain_answer a → meant (plain_answer a) ≡ a → Tells r a
telling a e m = record { number = e; meaning = ap meant e ∙ m }

-- a plain number stands for its answer, where what acceptances say of what they return is below refusals_from
answer_meant : {A : Type 0} (f : A → ℕ) (a : Answer A) → ((x : A) → a ≡ accepted x → f x < refusals_from) → meant (plain_answer (saying f a)) ≡ saying f a
unfolding plain_answer meant
answer_meant f (accepted x) below = rw (lt-ltb (f x) refusals_from (below x refl)) refl
answer_meant f (refused k) below = rw (le-ltb (refusals_from + k) refusals_from (omega arith)) (ap refused (omega arith))

-- the level that a run says
abbrev pub level : Run → ℕ
level run = run.level

-- a run goes out as its level, 1 to 563
level_answer : (s : List ℕ) (cells : ℕ) (run : Run) → outcome s cells ≡ accepted run → (plain_answer (saying level (outcome s cells)) ≡ run.level) × (1 ≤ run.level) × (run.level ≤ 563)
unfolding plain_answer
level_answer s cells run e =
    let passed = run_judged s cells run e in
    let same : accepted run ≡ accepted (run_of (model_of s)) = sym e ∙ outcome_accepted s cells passed in
    let whole : run ≡ run_of (model_of s) = cc in
    let number : run.level ≡ model_level (model_of s) = ap level whole in
    let range = level_range (model_of s) (accepted_file s cells passed).model.limits in
    (ap (λ (a : Answer Run). plain_answer (saying level a)) e, omega (arith, number, range.0), omega (arith, number, range.1))

-- so the number tells the level or the refusal: an answer below refusals_from is an acceptance, and any other a refusal
pub outcome_meant : (s : List ℕ) (cells : ℕ) → meant (plain_answer (saying level (outcome s cells))) ≡ saying level (outcome s cells)
outcome_meant s cells = answer_meant level (outcome s cells) (λ run e. omega (arith, (level_answer s cells run e).2))

-- a series goes out as its number of times, 1 to 8
series_answer_lem : (s times : List ℕ) (levels cells n : ℕ) → series_outcome s times levels cells ≡ accepted n → (1 ≤ length times) × (length times ≤ 8)
series_answer_lem s times levels cells n e =
    let f = accepted_series s times levels cells (series_judged s times levels cells n e) in
    (f.count_min, f.count_max)

-- so the number tells the answer
series_meant : (s times : List ℕ) (levels cells : ℕ) → meant (plain_answer (saying (λ n. length times) (series_outcome s times levels cells))) ≡ saying (λ n. length times) (series_outcome s times levels cells)
series_meant s times levels cells =
    answer_meant (λ n. length times) (series_outcome s times levels cells) (λ n e. omega (arith, (series_answer_lem s times levels cells n e).1))

pub series_told : (s times : List ℕ) (levels cells : ℕ) (a : Answer ℕ) → series_outcome s times levels cells ≡ a → (r : ℕ) → r ≡ plain_answer (saying (λ n. length times) a) → Tells r (saying (λ n. length times) a)
series_told s times levels cells a e r q = telling (saying (λ n. length times) a) q (rw e at (series_meant s times levels cells))

-- remainders go out as 0 or 1, and that number tells whether they are given
pub remainders_told : {b : Answer (Option Rests)} (a : Answer (Option Rests)) → b ≡ a → (r : ℕ) → r ≡ plain_answer (saying given_or_none a) → Tells r (saying given_or_none a)
remainders_told a same r q = telling (saying given_or_none a) q (answer_meant given_or_none a (λ x e. small x))
  where
    small : (x : Option Rests) → given_or_none x < refusals_from
    small (Some x) = omega arith
    small None = omega arith

-- a file that is written, and that calls accept, goes out as its count of bytes, at most 16,653
count_max : (t : List ℕ) → file_judgement 1 2 t ≡ accepted tt → length t ≤ 16653
count_max t accepts = length_max t (accepted_model 1 2 t accepts).framed

-- so the number tells the answer
pub written_meant : (a : Answer (List ℕ)) → ((t : List ℕ) → a ≡ accepted t → file_judgement 1 2 t ≡ accepted tt) → meant (plain_answer (count_of a)) ≡ count_of a
written_meant a accepts = answer_meant length a (λ t e. omega (arith, count_max t (accepts t e)))
