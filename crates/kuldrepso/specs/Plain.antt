-- The answer of a call as one plain number, for callers that have no enum of Rattle's.
use Rattle.std.specs.Prelude.{ℕ, ◌+◌, ◌-◌, ◌≡◌, ltb, Option, None, Some}
use Rattle.definitions.specs.Sums.{pick}
use Rattle.definitions.specs.declared.Rests.{Rests}
use Rattle.definitions.specs.Rules.{Answer, accepted, refused}

-- what refusals start from
abbrev pub refusals_from : ℕ
refusals_from = 1000000

-- what an acceptance returns, and for a refusal the number of its row with refusals_from added
unfoldable pub plain_answer : Answer ℕ → ℕ
plain_answer (accepted n) = n
plain_answer (refused k) = refusals_from + k

-- remainders that are given go out as 0, and none as 1
abbrev pub given_or_none : Option Rests → ℕ
given_or_none (Some x) = 0
given_or_none None = 1

-- an answer with the numbers that are lent for the remainders in the place of those that it gives
abbrev pub with_numbers : Answer (Option Rests) → Rests → Answer (Option Rests)
with_numbers (accepted (Some x)) y = accepted (Some y)
with_numbers (accepted None) y = accepted None
with_numbers (refused k) y = refused k

-- the answer that a plain number stands for: below refusals_from an acceptance, any other a refusal
unfoldable pub meant : ℕ → Answer ℕ
meant x = pick (ltb x refusals_from) (accepted x) (refused (x - refusals_from))

-- the number r tells the answer a: it is that answer's number, and stands for no other answer
pub record Tells (r : ℕ) (a : Answer ℕ) : Type 0 where
  pub number : r ≡ plain_answer a
  pub meaning : meant r ≡ a
