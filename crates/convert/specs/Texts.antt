-- The texts that are put one after the other are the moved file.
use Rattle.std.specs.Prelude.{ℕ, ◌+◌, ◌*◌, ◌-◌, ◌≤◌, ◌<◌, ◌≡◌, List, [], ◌∷◌, ◌++◌, length, get_or, take, drop, replicate}
use Rattle.std.proofs.Common.{sym, ◌∙◌, ap, ap₂, subst}
use borrow.Author.Rules.{part_to_end}
use Rattle.definitions.specs.Bytes.{bytes_of}
use Rattle.definitions.specs.File.{length_field, state_count}
use Rattle.definitions.specs.Rules.{accepted, file_judgement}
use Rattle.definitions.specs.Convert.{moved_to_2, moved_to_1}
use Rattle.laws.specs.ConvertLaws.{bytes_there, bytes_back}
use Rattle.writing.specs.declared.Pen.{Pen}
use Rattle.writing.specs.Printed.{Printed}
use Rattle.writing.specs.Puts.{Puts, printed}

-- the first 13 bytes of a moved file
abbrev headed : List ℕ → ℕ → ℕ → List ℕ
headed s later version = bytes_of 2 later ++ (version ∷ []) ++ take 10 (drop 3 s)

-- the weights of so many states, all of it on the first
abbrev weighted : ℕ → List ℕ
weighted states = bytes_of 4 1000000 ++ replicate (4 * (states - 1)) 0

-- what stands in a file from the place at on
abbrev from : List ℕ → ℕ → List ℕ
from s at = take (length s - at) (drop at s)

module _ (s : List ℕ) (bytes : (i : ℕ) → get_or s i 0 < 256) where
  pub printed_there : file_judgement 1 1 s ≡ accepted tt → (later version states at : ℕ) {most : ℕ} {left : List ℕ} {old new : Pen} →
      Puts (bytes_of 2 later ++ (version ∷ []) ++ take 10 (drop 3 s) ++ (bytes_of 4 1000000 ++ replicate (4 * (states - 1)) 0) ++ take (length s - at) (drop at s)) most old new →
      later ≡ length_field s + 4 * state_count s → version ≡ 2 → states ≡ state_count s → at ≡ 13 → most ≤ length old.out.now → old.at ≡ 0 → left ≡ new.out.now → Printed (moved_to_2 s) old.out.now left new.at
  printed_there passed later version states at {left = left} {old} {new} put e v m a room start end =
      subst (λ (x : List ℕ). Printed x old.out.now left new.at)
      (ap₂ (λ (x y : ℕ). headed s x y ++ weighted states ++ from s at) e v
      ∙ ap₂ (λ (x y : ℕ). headed s (length_field s + 4 * state_count s) 2 ++ weighted x ++ from s y) m a
      ∙ ap (λ (x : List ℕ). headed s (length_field s + 4 * state_count s) 2 ++ weighted (state_count s) ++ x) (part_to_end s 13)
      ∙ sym (bytes_there s bytes passed))
      (printed room start end put)

  pub printed_back : file_judgement 2 2 s ≡ accepted tt → (later version at : ℕ) {most : ℕ} {left : List ℕ} {old new : Pen} →
      Puts (bytes_of 2 later ++ (version ∷ []) ++ take 10 (drop 3 s) ++ take (length s - at) (drop at s)) most old new →
      later ≡ length_field s - 4 * state_count s → version ≡ 1 → at ≡ 13 + 4 * state_count s → most ≤ length old.out.now → old.at ≡ 0 → left ≡ new.out.now → Printed (moved_to_1 s) old.out.now left new.at
  printed_back passed later version at {left = left} {old} {new} put e v a room start end =
      subst (λ (x : List ℕ). Printed x old.out.now left new.at)
      (ap₂ (λ (x y : ℕ). headed s x y ++ from s at) e v
      ∙ ap (λ (x : ℕ). headed s (length_field s - 4 * state_count s) 1 ++ from s x) a
      ∙ ap (λ (x : List ℕ). headed s (length_field s - 4 * state_count s) 1 ++ x) (part_to_end s (13 + 4 * state_count s))
      ∙ sym (bytes_back s bytes passed))
      (printed room start end put)
