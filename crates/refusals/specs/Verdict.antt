-- What an answer says of a file.
use Rattle.std.specs.Prelude.{Result}
use Rattle.definitions.specs.declared.Refusal.{Refusal}
use Rattle.definitions.specs.Rules.{Answer, saying, answer_of}

-- accepted, or refused by a row, whatever else the answer hands back
abbrev pub verdict : {A : Type 0} → Result A Refusal → Answer (Unit {0})
verdict result = saying (λ _. tt) (answer_of result)
