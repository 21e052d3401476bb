-- Rows of places that are stored in one list, and what is read from it again.
use Rattle.std.specs.Prelude.{ℕ, zero, suc, ◌+◌, ◌*◌, ◌≤◌, ◌<◌, ◌≡◌, List, ◌++◌, length, get_or, take, drop, refl}
use Rattle.std.proofs.Common.{arith, mul-le-mul_right, add-one, sym, ◌∙◌, ap, append_assoc, drop-drop}
use Rattle.std.proofs.Math.Decide.{ℕ_discrete}
use Rattle.std.proofs.lemmas.List.Edits.{sets, sets-eq}
use Rattle.std.proofs.Math.Seq.{length-sets}
use Rattle.definitions.specs.Sums.{firsts, over, rows_stored}
use Rattle.laws.specs.ListLaws.{length_firsts}
use Rattle.laws.specs.ByteLaws.{sets_before, sets_inside}
use Rattle.laws.specs.BlockLaws.{put_back}

module _ (row : ℕ → List ℕ) (size : ℕ) (l : List ℕ) where
  pub none_stored : l ≡ rows_stored row size 0 l
  unfolding rows_stored
  none_stored = refl

  pub length_stored : (n : ℕ) → length (rows_stored row size n l) ≡ length l
  unfolding rows_stored
  length_stored zero = refl
  length_stored (suc n) = length-sets (rows_stored row size n l) (n * size) (row n) ∙ length_stored n

  -- place k of row i, where each row fits its places
  pub get_d_stored : (n : ℕ) → ((i : ℕ) → i < n → length (row i) ≤ size) → (i k : ℕ) → n * size ≤ length l → i < n → k < length (row i) → get_or (rows_stored row size n l) (i * size + k) 0 ≡ get_or (row i) k 0
  unfolding rows_stored
  get_d_stored zero fits i k room h b = absurd (omega arith)
  get_d_stored (suc n) fits i k room h b =
      elim (ℕ_discrete i n) [
        | yes e ↦ rw e (sets_inside (rows_stored row size n l) (n * size) (row n) k (omega (arith, room, length_stored n, fits n (omega arith))) (rw e at b))
        | no ne ↦
            sets_before (rows_stored row size n l) (n * size) (row n) (i * size + k) (omega (arith, b, fits i (omega arith), mul-le-mul_right size (earlier ne)))
            ∙ get_d_stored n (λ j l. fits j (omega arith)) i k (omega (arith, room)) (omega arith) b
      ]
    where
      earlier : (i ≡ n → ⊥) → suc i ≤ n
      earlier ne = omega arith

  -- one row more, as code counts
  pub stored_more : (n : ℕ) → sets (rows_stored row size n l) (n * size) (row n) ≡ rows_stored row size (n + 1) l
  unfolding rows_stored
  stored_more n = rw add-one refl

-- a part of k entries from place a on, that was lent, filled up to n and put back: n entries are stored
part_stored : (a k n : ℕ) (g : ℕ → ℕ) (l part : List ℕ) → a + n ≤ length l → n ≤ length (take k (drop a l)) → part ≡ over n g (take k (drop a l)) → take a l ++ (part ++ drop k (drop a l)) ≡ sets l a (firsts n g)
unfolding over
part_stored a k n g l part room whole filled = grind (arith, put_back, sets-eq, length_firsts, append_assoc, drop-drop)

-- so the next row is stored: one turn of a loop that lends each row its part
pub row_back : (row : ℕ → List ℕ) (size i k n : ℕ) (g : ℕ → ℕ) (l now part : List ℕ) → now ≡ rows_stored row size i l → row i ≡ firsts n g → i * size + n ≤ length now → n ≤ length (take k (drop (i * size) now)) → part ≡ over n g (take k (drop (i * size) now)) → take (i * size) now ++ (part ++ drop k (drop (i * size) now)) ≡ rows_stored row size (i + 1) l
row_back row size i k n g l now part e whole room long filled =
    part_stored (i * size) k n g now part room long filled
    ∙ ap (λ (x : List ℕ). sets now (i * size) x) (sym whole)
    ∙ ap (λ (x : List ℕ). sets x (i * size) (row i)) e
    ∙ stored_more row size l i
