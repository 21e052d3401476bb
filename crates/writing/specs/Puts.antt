-- What a writer does: it stores a text in the buffer from a place on. Assumes nothing.
use Rattle.std.specs.Prelude.{◌≡◌, refl, List, [], ◌∷◌, ◌++◌, ℕ, suc, ◌+◌, ◌-◌, ◌≤◌, length, set, drop}
use Rattle.std.proofs.Common.{◌∙◌, sym, ap, suc-add, add-suc, add-zero, zero-add, add-one, arith, length-append}
use Rattle.std.proofs.lemmas.List.Edits.{sets, sets-eq}
use Rattle.std.proofs.lemmas.Slice.{put_mid-paste}
use Rattle.std.proofs.Math.Seq.{length-sets, take-length}
use borrow.Rule.Slice.PartMut.{put_mid}
use Rattle.definitions.specs.Written.{written}
use Rattle.writing.specs.declared.Pen.{Pen}
use Rattle.writing.specs.Printed.{Printed}

-- the pen has stored the text, of at most so many bytes, from its place on, and stands after it; its buffer is the same one and as long as before
pub record Puts (text : List ℕ) (most : ℕ) (old new : Pen) : Type 0 where
  pub after : new.at ≡ old.at + length text
  pub within : new.at ≤ old.at + most
  pub bytes : new.out.now ≡ sets old.out.now old.at text
  pub room : length new.out.now ≡ length old.out.now
  pub same_buffer : new.out.ghost_name ≡ old.out.ghost_name

-- no text yet, where a run of texts begins
pub nothing : {text : List ℕ} {most : ℕ} {old : Pen} → length text ≡ 0 → Puts text most old old
nothing {text = []} none = record { after = omega arith; within = omega arith; bytes = refl; room = refl; same_buffer = refl }
nothing {text = b ∷ rest} none = absurd (omega (arith, none))

sets_append : (t u : List ℕ) (old : List ℕ) (at : ℕ) → sets (sets old at t) (at + length t) u ≡ sets old at (t ++ u)
sets_append [] u old at = rw add-zero
sets_append (b ∷ t) u old at = rw (add-suc at (length t), ← suc-add at (length t)) (sets_append t u (set old at b) (suc at))

-- one text and then another, right after it, are both together
pub then : {t u : List ℕ} {m n : ℕ} {old mid new : Pen} → Puts t m old mid → Puts u n mid new → Puts (t ++ u) (m + n) old new
then {t} {u} {old = old} p q =
    record {
      after = omega (arith, length-append t u);
      within = omega arith;
      bytes = rw (q.bytes, p.bytes, p.after) (sets_append t u old.out.now old.at);
      room = q.room ∙ p.room;
      same_buffer = q.same_buffer ∙ p.same_buffer;
    }

-- after a text's first byte, what is left to store is the rest
pub first_byte : {b m : ℕ} {old new : Pen} → Puts (b ∷ []) m old new → (rest : List ℕ) → sets new.out.now new.at rest ≡ sets old.out.now old.at (b ∷ rest)
first_byte p rest = rw (p.bytes, p.after, add-one)

-- a text of at most m bytes is one of at most n, where m is no more
pub wider : {t : List ℕ} {m n : ℕ} {old new : Pen} → m ≤ n → Puts t m old new → Puts t n old new
wider h p = record { after = p.after; within = omega arith; bytes = p.bytes; room = p.room; same_buffer = p.same_buffer }

-- a text put at the start of a buffer that has room for it is printed there
pub printed : {text left : List ℕ} {most : ℕ} {old new : Pen} → most ≤ length old.out.now → old.at ≡ 0 → left ≡ new.out.now → Puts text most old new → Printed text old.out.now left new.at
unfolding written
printed {text} {old = old} h none end p =
    record {
      counted = omega arith;
      inside = rw end (omega arith);
      bytes = end ∙ p.bytes ∙ rw none (sets-eq text old.out.now 0 (omega arith) ∙ ap (λ (n : ℕ). text ++ drop n old.out.now) (zero-add (length text)));
    }

part_stored : (text ys old : List ℕ) (at k : ℕ) → ys ≡ text → k ≡ length text → at + length text ≤ length old → put_mid at k old ys ≡ sets old at text
part_stored text ys old at k same long room =
    put_mid-paste at k old ys text (length text) same (sym long) refl ∙ rw take-length (sym (sets-eq text old at room))

-- the pen's place has moved past a part of the buffer, of k bytes, that is ys now, and ys is the text
pub stored : {text : List ℕ} {k : ℕ} {old new : Pen} (ys : List ℕ) → ys ≡ text → length text ≡ k → old.at + k ≤ length old.out.now → new.out.now ≡ put_mid old.at (old.at + k - old.at) old.out.now ys → new.at ≡ old.at + k → new.out.ghost_name ≡ old.out.ghost_name →
    Puts text k old new
stored {text} {k} {old} {new} ys same long room part place name =
    let bytes = part ∙ part_stored text ys old.out.now old.at (old.at + k - old.at) same (omega arith) (omega arith) in
    record {
      after = omega arith;
      within = omega arith;
      bytes = bytes;
      room = ap length bytes ∙ length-sets old.out.now old.at text;
      same_buffer = name;
    }
