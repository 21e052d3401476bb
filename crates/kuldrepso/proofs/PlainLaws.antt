-- The plain answer of a call says what its outcome says: of a run, of a move and of dealing, whose numbers rest on the largest that an acceptance says.
use Rattle.std.specs.Prelude.{ℕ, ◌≡◌, List}
use Rattle.std.proofs.Common.{arith, sym, subst}
use Rattle.definitions.specs.declared.Run.{Run}
use Rattle.definitions.specs.Rules.{Answer, saying}
use Rattle.definitions.specs.Moment.{outcome, LevelBounded}
use Rattle.definitions.specs.Written.{count_of}
use Rattle.definitions.specs.Convert.{ThereAndBack}
use Rattle.definitions.specs.Practice.{DealtWell}
use Rattle.kuldrepso.specs.Plain.{plain_answer, meant, Tells}
use Rattle.kuldrepso.specs.PlainLaws.{telling, level, outcome_meant, written_meant}

pub outcome_told : (s : List ℕ) (cells : ℕ) (a : Answer Run) → outcome s cells ≡ a → (r : ℕ) → r ≡ plain_answer (saying level a) → Tells r (saying level a)
outcome_told s cells a e r q = telling (saying level a) q (rw e at (outcome_meant s cells))

-- the level's bound, as one of the number
pub bound_meant : (s : List ℕ) (cells : ℕ) (a : Answer Run) → outcome s cells ≡ a → LevelBounded (saying level a) s → LevelBounded (meant (plain_answer (saying level a))) s
bound_meant s cells a e bound = subst (λ (x : Answer ℕ). LevelBounded x s) (sym (rw e at (outcome_meant s cells))) bound

-- that of a move, and that of dealing
pub moved_told : (a : Answer (List ℕ)) (s : List ℕ) (back : List ℕ → ℕ → Answer (List ℕ)) → ThereAndBack a s back → (r : ℕ) → r ≡ plain_answer (count_of a) → Tells r (count_of a)
moved_told a s back moved r q = telling (count_of a) q (written_meant a (λ t e. (subst (λ (x : Answer (List ℕ)). ThereAndBack x s back) e moved).accepts))

pub dealt_told : (a : Answer (List ℕ)) (M R seed : ℕ) → DealtWell a M R seed → (r : ℕ) → r ≡ plain_answer (count_of a) → Tells r (count_of a)
dealt_told a M R seed dealt r q = telling (count_of a) q (written_meant a (λ t e. (subst (λ (x : Answer (List ℕ)). DealtWell x M R seed) e dealt).accepts 2 (omega arith)))
