-- A table in two parts, where the first part's answer is known.
use Rattle.std.specs.Prelude.{ℕ, ◌≡◌, refl, ◌++◌}
use Rattle.std.proofs.Common.{sym, ◌∙◌}
use Rattle.definitions.specs.Rules.{accepted, refused, Rows, first_held}
use Rattle.laws.specs.RuleLaws.{in_parts}

-- what refuses the first part refuses the table
pub first_refuses : {A B : Type 0} (t u : Rows) (a : A) (b : B) (k : ℕ) → refused k ≡ first_held t a → refused k ≡ first_held (t ++ u) b
first_refuses t u a b k stopped = sym (in_parts t u a b ∙ rw (sym stopped) refl)

-- past a first part that accepts, the second part answers
pub second_answers : {A B : Type 0} (t u : Rows) (a x : A) (b : B) → accepted x ≡ first_held t a → first_held u b ≡ first_held (t ++ u) b
second_answers t u a x b passed = sym (in_parts t u a b ∙ rw (sym passed) refl)
