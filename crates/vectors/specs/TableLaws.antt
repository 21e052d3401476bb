-- The rows of a table of vectors, and the table of n that is filled row by row over another. Assumes nothing.
use Rattle.std.specs.Prelude.{List, [], ◌≡◌, leb, length, get_or, set, ℕ, ◌+◌, ◌≤◌, ◌<◌}
use Rattle.std.proofs.Common.{sym, ◌∙◌, arith, le-leb, ap}
use Rattle.std.proofs.lemmas.List.{length-replicate, get_or-replicate}
use Rattle.std.proofs.lemmas.Bool.{lt-leb}
use Rattle.definitions.specs.Sums.{over, pick}
use Rattle.definitions.specs.Chain.{Chain, padded}
use Rattle.definitions.specs.Vectors.{ONE, U, vector}
use Rattle.laws.specs.ListLaws.{length_firsts, get_d_firsts, get_d_over, get_d_over_past, over_none, over_same, over_store, over_further, over_whole_lem}
use Rattle.laws.specs.ArrayLaws.{zeros}
use Rattle.vectors.specs.Table.{blank, table_of}
use Rattle.vectors.specs.StepLaws.{get_d_vector, vector_zero}

-- 9 rows, with zeros past row R
pub record ZerosPast (R : ℕ) (l : List (List ℕ)) : Type 0 where
  pub rows : length l ≡ 9
  pub past : (r : ℕ) → R < r → r < 9 → get_or l r [] ≡ zeros 64

pub blank_zeros : (R : ℕ) → ZerosPast R blank
unfolding blank
blank_zeros R = record { rows = length-replicate 9 (zeros 64); past = λ r h l. get_or-replicate 9 r (zeros 64) [] l }

module _ (ch : Chain) (R n : ℕ) (highest_max : R ≤ 8) where
  -- row r is U(n,r)
  pub table_row : (r : ℕ) → r ≤ R → get_or (table_of ch R n) r [] ≡ vector ch n r
  unfolding table_of
  table_row r l = get_d_firsts [] 9 (λ r. pick (leb r R) (vector ch n r) (zeros 64)) r (omega arith) ∙ rw (le-leb r R l)

  -- U(n,r) at i in its place of the table
  pub table_entry : (r i : ℕ) → r ≤ R → ch.states ≤ 64 → i < ch.states → get_or (get_or (table_of ch R n) r []) i 0 ≡ U ch n r i
  table_entry r i l h li = rw (table_row r l) (get_d_vector ch h n r i li)

  pub table_zeros : ZerosPast R (table_of ch R n)
  unfolding table_of
  table_zeros =
      record {
        rows = length_firsts 9 (λ r. pick (leb r R) (vector ch n r) (zeros 64));
        past = λ r h l. get_d_firsts [] 9 (λ r. pick (leb r R) (vector ch n r) (zeros 64)) r l ∙ rw (lt-leb r R h);
      }

-- the vectors of n over the rows of l
module _ (ch : Chain) (n : ℕ) (l : List (List ℕ)) where
  -- the rows that are filled so far
  pub row_filled : (k r : ℕ) (t : List (List ℕ)) → t ≡ over k (vector ch n) l → r < k → get_or t r [] ≡ vector ch n r
  row_filled k r t so h = rw so (get_d_over [] k (vector ch n) l r h)

  -- U(n,r) as the next row
  pub table_more : (r : ℕ) (t : List (List ℕ)) → length l ≡ 9 → r ≤ 8 → t ≡ over r (vector ch n) l → {v : List ℕ} → v ≡ vector ch n r → set t r v ≡ over (r + 1) (vector ch n) l
  table_more r t rows h so e = over_store r (vector ch n) l t _ (omega arith) so e

  -- filled up to R it is the table of n
  pub table_filled : (R k : ℕ) (t : List (List ℕ)) → ZerosPast R l → R ≤ 8 → t ≡ over k (vector ch n) l → k ≡ R + 1 → t ≡ table_of ch R n
  unfolding table_of
  table_filled R k t zeros_past highest_max so all =
      so
      ∙ ap (λ (m : ℕ). over m (vector ch n) l) all
      ∙ over_same (R + 1) (vector ch n) row l (λ r b. rw (le-leb r R (omega arith)))
      ∙ over_whole_lem [] (R + 1) 9 row l (omega arith) zeros_past.rows (λ r past b. rw (lt-leb r R (omega arith)) (sym (zeros_past.past r (omega arith) b)))
    where
      row : ℕ → List ℕ
      row r = pick (leb r R) (vector ch n r) (zeros 64)

-- from zeros: U(n,0) is the first row
pub table_start : (ch : Chain) (n : ℕ) (t : List (List ℕ)) → ch.states ≤ 64 → t ≡ blank → {v : List ℕ} → v ≡ padded ch.states (λ i. ONE) → set t 0 v ≡ over (0 + 1) (vector ch n) blank
table_start ch n t h so e = table_more ch n blank 0 t (blank_zeros 0).rows (omega arith) (so ∙ sym (over_none (vector ch n) blank)) (e ∙ vector_zero ch h n)

-- over the table of another n, m: its first row is U(n,0) too, and the rows that are not filled yet are those of m
module _ (ch : Chain) (R n m : ℕ) (highest_max : R ≤ 8) where
  pub rows_start : ch.states ≤ 64 → table_of ch R m ≡ over 1 (vector ch n) (table_of ch R m)
  rows_start h =
      sym (over_none (vector ch n) (table_of ch R m))
      ∙ over_further [] 0 1 (vector ch n) (table_of ch R m) (omega arith) (omega (arith, (table_zeros ch R m highest_max).rows))
      (λ k low high. first k (omega arith))
    where
      first : (k : ℕ) → k ≡ 0 → vector ch n k ≡ get_or (table_of ch R m) k []
      first k e = rw e (sym (vector_zero ch h n) ∙ vector_zero ch h m ∙ sym (table_row ch R m highest_max 0 (omega arith)))

  pub row_to_come : (k r : ℕ) (t : List (List ℕ)) → t ≡ over k (vector ch n) (table_of ch R m) → k ≤ r → r ≤ R → get_or t r [] ≡ vector ch m r
  row_to_come k r t so low high = rw so (get_d_over_past [] k (vector ch n) (table_of ch R m) r low ∙ table_row ch R m highest_max r high)
