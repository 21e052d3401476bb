-- Document 02, S-5: a version 1 file moved to version 2 with all weight on state 1, and back.
use Rattle.std.specs.Prelude.{ℕ, ◌+◌, ◌-◌, ◌≤◌, List, [], ◌∷◌, ◌++◌, ◌≡◌, length, replicate}
use Rattle.definitions.specs.Sums.{any_above}
use Rattle.definitions.specs.Chain.{Model, model_of}
use Rattle.definitions.specs.Rules.{Answer, accepted, refused, Rows, file_rows, file_judgement}
use Rattle.definitions.specs.Weights.{MILLION}
use Rattle.definitions.specs.Moment.{moment, model_level}
use Rattle.definitions.specs.Fields.{Fields, in_version, fields_of, file_of}
use Rattle.definitions.specs.Written.{file_for}

-- the fields f in version 2, with all weight on state 1
unfoldable pub in_version_2 : Fields → Fields
in_version_2 f = in_version 2 (MILLION ∷ replicate (f.states - 1) 0) f

-- the fields f in version 1, without weights
unfoldable pub in_version_1 : Fields → Fields
in_version_1 f = in_version 1 [] f

-- the file s, moved
abbrev pub moved_to_2 : List ℕ → List ℕ
moved_to_2 s = file_of (in_version_2 (fields_of s))

abbrev pub moved_to_1 : List ℕ → List ℕ
moved_to_1 s = file_of (in_version_1 (fields_of s))

-- row 17: a state other than the first has weight
unfoldable pub elsewhere : Model → Rows
elsewhere m = (17, any_above 0 (m.states - 1) (λ i. m.start (i + 1))) ∷ []

-- what a call answers that moves the file s to version 2, lent with a number of bytes
unfoldable pub to_version_2 : List ℕ → ℕ → Answer (List ℕ)
to_version_2 s lent = file_for (file_rows 1 1 s) (moved_to_2 s) lent

-- and one that moves it back to version 1
unfoldable pub to_version_1 : List ℕ → ℕ → Answer (List ℕ)
to_version_1 s lent = file_for (file_rows 2 2 s ++ elsewhere (model_of s)) (moved_to_1 s) lent

-- the file t is s moved: calls accept it, it has the level and the moments of s, and the call back, lent bytes enough, returns s
pub record Moved (s t : List ℕ) (back : List ℕ → ℕ → Answer (List ℕ)) : Type 0 where
  pub accepts : file_judgement 1 2 t ≡ accepted tt
  pub same_level : model_level (model_of t) ≡ model_level (model_of s)
  pub same_moments : (N r i : ℕ) → moment (model_of t) N r i ≡ moment (model_of s) N r i
  pub returns : (lent : ℕ) → length s ≤ lent → back t lent ≡ accepted s

-- "there and back returns the same bytes": of an answer, for a file that was moved
abbrev pub ThereAndBack : Answer (List ℕ) → List ℕ → (List ℕ → ℕ → Answer (List ℕ)) → Type 0
ThereAndBack (accepted t) s back = Moved s t back
ThereAndBack (refused k) s back = Unit {0}
