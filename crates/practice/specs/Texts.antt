-- The texts that are put one after the other are the practice file.
use Rattle.std.specs.Prelude.{◌≡◌, ℕ, ◌+◌, ◌-◌, ◌*◌, ◌/◌, ◌≤◌, List, ◌++◌, length}
use Rattle.std.proofs.Common.{sym, ◌∙◌, ap, subst, arith}
use Rattle.definitions.specs.declared.Header.{Header}
use Rattle.definitions.specs.Sums.{firsts}
use Rattle.definitions.specs.Bytes.{bytes_of}
use Rattle.definitions.specs.Fields.{words_of, headed}
use Rattle.definitions.specs.Practice.{stream, draw, practice_file}
use Rattle.laws.specs.WordLaws.{words_more}
use Rattle.laws.specs.PracticeLaws.{text_dealt}
use Rattle.writing.specs.declared.Pen.{Pen}
use Rattle.writing.specs.Printed.{Printed}
use Rattle.writing.specs.Puts.{Puts, then, wider, printed}

-- a draw after the draws that stand there
pub one_more : (from done x : ℕ) {old now new : Pen} → Puts (words_of (firsts done (draw from))) (4 * done) old now → Puts (bytes_of 4 x) 4 now new → x ≡ draw from done →
    Puts (words_of (firsts (done + 1) (draw from))) (4 * (done + 1)) old new
one_more from done x {old} {now} {new} put more e =
    subst (λ (l : List ℕ). Puts l (4 * (done + 1)) old new)
    (ap (λ (n : ℕ). words_of (firsts done (draw from)) ++ bytes_of 4 n) e ∙ sym (words_more done (draw from)))
    (wider (omega arith) (then put more))

-- the header, the first reward and the later draws are the file
pub printed_dealt : (M R seed : ℕ) → 1 ≤ M → (h : Header) (count reward second : ℕ) {most : ℕ} {left : List ℕ} {old new : Pen} →
    Puts (headed h count ++ bytes_of 4 reward ++ words_of (firsts (count - 1) (draw second))) most old new →
    h.version ≡ 1 → h.states ≡ M → h.highest ≡ R → h.tolerance ≡ 10000 → h.time ≡ 1 + draw seed 0 / 4096 → count ≡ M * M → reward ≡ draw seed 1 + 1 → second ≡ stream seed 2 →
    most ≤ length old.out.now → old.at ≡ 0 → left ≡ new.out.now → Printed (practice_file M R seed) old.out.now left new.at
printed_dealt M R seed some h count reward second {left = left} {old} {new} put v m r e t k first from room start end =
    subst (λ (x : List ℕ). Printed x old.out.now left new.at) (text_dealt M R seed some h count reward second v m r e t k first from) (printed room start end put)
