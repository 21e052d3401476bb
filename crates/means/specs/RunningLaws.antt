-- The running sums: none at first, one n more at a time, and their range.
use Rattle.std.specs.Prelude.{List, [], ◌≡◌, refl, Bool, true, false, leb, length, take, drop, ℕ, ◌+◌, ◌-◌, ◌*◌, ◌/◌, ◌%◌, ◌≤◌, ◌<◌, min, get_or}
use Rattle.std.proofs.Common.{sym, ap, ap₂, ◌∙◌, le_trans, add-one, arith, le-leb, lt-ltb, le-ltb}
use Rattle.std.proofs.Math.Decide.{dec_le, dec_lt}
use Rattle.std.proofs.lemmas.Bool.{lt-leb}
use Rattle.definitions.specs.declared.Sizes.{Sizes}
use Rattle.definitions.specs.Sums.{over, blocks, pick}
use Rattle.definitions.specs.Chain.{Chain, Listing, arrays}
use Rattle.definitions.specs.Vectors.{ONE, U}
use Rattle.definitions.specs.Weights.{GREATEST}
use Rattle.definitions.specs.Moment.{term}
use Rattle.laws.specs.Rounding.{row_of_place}
use Rattle.laws.specs.SumLaws.{sum_zero, sum_suc, sum_mono, sum_constant}
use Rattle.laws.specs.ListLaws.{over_kept, over_same, over_further}
use Rattle.laws.specs.BlockLaws.{length_blocks, get_d_blocks, get_d_next, blocks_same, blocks_again}
use Rattle.laws.specs.VectorLaws.{Stochastic, U_bound}
use Rattle.laws.specs.MomentLaws.{row_of_cell, state_of_cell, moment_of_cell, term_max}
use Rattle.vectors.specs.Ready.{Ready}
use Rattle.vectors.specs.Table.{table_of}
use Rattle.vectors.specs.TableLaws.{table_entry}
use Rattle.means.specs.Running.{in_table, row_from, term_at, of_states, part_sum, part_sums, Addable, AllAddable, Summable}

-- the cell of state i and moment r has the table's entry i of row r
pub cell_in_table : (table : List (List ℕ)) (i r R k : ℕ) → k ≡ i * R + (r - 1) → 1 ≤ r → r ≤ R → in_table table R k ≡ get_or (get_or table r []) i 0
cell_in_table table i r R k e low high =
    rw e (ap₂ (λ (a b : ℕ). get_or (get_or table a []) b 0) (moment_of_cell i r R low high) (row_of_place i (r - 1) R (omega arith)))

-- the terms of n added to the cells: up to the level their terms, past it none
pub terms_up_to : (l row : List ℕ) (count n level : ℕ) (u : ℕ → ℕ) → n ≤ level → over count (λ e. get_or l e 0 + term (get_or row n 0) (u e)) l ≡ over count (λ e. get_or l e 0 + term_at row n level (u e)) l
terms_up_to l row count n level u h = over_same count _ _ l (λ e b. rw (le-leb n level h) refl)

pub terms_past : (l row : List ℕ) (count n level : ℕ) (u : ℕ → ℕ) → level < n → count ≤ length l → l ≡ over count (λ e. get_or l e 0 + term_at row n level (u e)) l
terms_past l row count n level u h enough = sym (over_kept 0 count _ l enough (λ e b. rw (lt-leb n level h) (omega arith)))

-- terms of a weight that is 0 add nothing
pub terms_of_none : (l row : List ℕ) (count n level : ℕ) (u : ℕ → ℕ) → get_or row n 0 ≡ 0 → count ≤ length l → l ≡ over count (λ e. get_or l e 0 + term_at row n level (u e)) l
unfolding term
terms_of_none l row count n level u none enough = sym (over_kept 0 count _ l enough (λ e b. rw none (nothing (leb n level) e)))
  where
    nothing : (b : Bool) (e : ℕ) → get_or l e 0 + pick b (0 * u e / ONE) 0 ≡ get_or l e 0
    nothing true e = let none : 0 * u e ≡ 0 = omega arith in rw none (omega arith)
    nothing false e = omega arith

-- in a cell of the states, and past them
pub in_states : (count e x : ℕ) → e < count → of_states count e x ≡ x
in_states count e x h = rw (lt-ltb e count h) refl

pub past_states : (count e x : ℕ) → count ≤ e → of_states count e x ≡ 0
past_states count e x h = rw (le-ltb e count h) refl

-- what agrees in the states' cells is the same in all
same_in_states : (count e x y : ℕ) → (e < count → x ≡ y) → of_states count e x ≡ of_states count e y
same_in_states count e x y same =
    elim (dec_lt e count) [ yes h ↦ ap (of_states count e) (same h) | no q ↦ past_states count e x (omega (arith, q)) ∙ sym (past_states count e y (omega (arith, q))) ]

-- 0 is 0 in all
none_in_states : (count e : ℕ) → of_states count e 0 ≡ 0
none_in_states count e = elim (dec_lt e count) [ yes h ↦ in_states count e 0 h | no q ↦ past_states count e 0 (omega (arith, q)) ]

-- the terms of a block's first cells, as those of the whole block
pub terms_in_block : (l row : List ℕ) (count size n level : ℕ) (u : ℕ → ℕ) → count ≤ size → size ≤ length l → over count (λ e. get_or l e 0 + term_at row n level (u e)) l ≡ over size (λ e. get_or l e 0 + of_states count e (term_at row n level (u e))) l
terms_in_block l row count size n level u fits enough =
    over_same count _ (λ e. get_or l e 0 + of_states count e (term_at row n level (u e))) l (λ e b. ap (λ (x : ℕ). get_or l e 0 + x) (sym (in_states count e (term_at row n level (u e)) b)))
    ∙ over_further 0 count size _ l fits enough (λ e past b. omega (arith, past_states count e (term_at row n level (u e)) past))

-- the sum in one cell
module _ (ch : Chain) (w : List ℕ) (R : ℕ) where
  -- what n adds to it
  abbrev added_at : ℕ → ℕ → ℕ
  added_at k n = of_states (ch.states * R) k (term (get_or w n 0) (U ch n (k % R + 1) (k / R)))

  part_none : (k : ℕ) → 0 ≡ part_sum ch w R 0 k
  unfolding part_sum
  part_none k = sym (sum_zero (added_at k))

  part_next : (n k : ℕ) → part_sum ch w R (n + 1) k ≡ part_sum ch w R n k + added_at k n
  unfolding part_sum
  part_next n k = ap (λ (x : ℕ). part_sum ch w R x k) (add-one n) ∙ sum_suc n (added_at k)

  -- one term more, up to the level
  part_taken : (n N k : ℕ) → part_sum ch w R (min n (N + 1)) k + of_states (ch.states * R) k (term_at w n N (U ch n (k % R + 1) (k / R))) ≡ part_sum ch w R (min (n + 1) (N + 1)) k
  part_taken n N k =
      elim (dec_le n N) [
        | yes h ↦
            let now : min n (N + 1) ≡ n = omega arith in
            let next : min (n + 1) (N + 1) ≡ n + 1 = omega arith in
            rw (le-leb n N h, now, next) (sym (part_next n k))
        | no q ↦
            let now : min n (N + 1) ≡ N + 1 = omega (arith, q) in
            let next : min (n + 1) (N + 1) ≡ N + 1 = omega (arith, q) in
            rw (lt-leb n N (omega (arith, q)), now, next, none_in_states (ch.states * R) k) (omega arith)
      ]

  -- it stays small: a term is at most its weight
  part_max : (n k : ℕ) → Stochastic ch → ((j : ℕ) → j < n → get_or w j 0 ≤ GREATEST) → k < ch.states * R → part_sum ch w R n k ≤ n * GREATEST
  unfolding part_sum
  part_max n k s h l =
      omega
      (arith, sum_mono n (added_at k) (λ j. GREATEST) (λ j b. rw (in_states (ch.states * R) k (term (get_or w j 0) (U ch j (k % R + 1) (k / R))) l) (le_trans (term_max (get_or w j 0) _ (U_bound ch s j (k % R + 1) (k / R) (state_of_cell k ch.states R l))) (h j b))), sum_constant n GREATEST)

in_table_lem : (ch : Chain) (R n k : ℕ) → ch.states ≤ 64 → 1 ≤ R → R ≤ 8 → k < ch.states * R → in_table (table_of ch R n) R k ≡ U ch n (k % R + 1) (k / R)
in_table_lem ch R n k states_max low high l =
    table_entry ch R n high (k % R + 1) (k / R) (row_of_cell k R low) states_max (state_of_cell k ch.states R l)

-- the sums in all blocks, over what stood there before
module _ (ch : Chain) (B : ℕ) (levels w : List ℕ) (R : ℕ) (l : List ℕ) (enough : length levels * B ≤ length l) where
  pub length_sums : (n : ℕ) → length (part_sums ch B levels w R n l) ≡ length l
  unfolding part_sums
  length_sums n = length_blocks B (length levels) _ l enough

  pub sums_at : (n k c : ℕ) → k < length levels → c < B → get_or (part_sums ch B levels w R n l) (k * B + c) 0 ≡ part_sum ch (row_from w k) R (min n (get_or levels k 0 + 1)) c
  unfolding part_sums
  sums_at n k c hk hc = get_d_blocks B 0 (length levels) _ l k c hk hc

  -- no terms yet
  pub sums_none : (count : ℕ) → count ≡ length levels * B → over count (λ k. 0) l ≡ part_sums ch B levels w R 0 l
  unfolding part_sums blocks
  sums_none count all =
      ap (λ (n : ℕ). over n (λ k. 0) l) all
      ∙ over_same (length levels * B) (λ k. 0) _ l
      (λ p b. part_none ch (row_from w (p / B)) R (p % B) ∙ ap (λ (n : ℕ). part_sum ch (row_from w (p / B)) R n (p % B)) (omega arith))

-- the same for a function that has the sums in its cells, over what stood there, and the table of a chain in arrays
module _ (z : Sizes) (a : Listing) (f levels w : List ℕ) (ready : Ready z a f) (g : Summable z levels w) (l : List ℕ) (enough : length levels * z.block ≤ length l) where
  abbrev ch : Chain
  ch = arrays z a f

  abbrev R : ℕ
  R = z.highest

  -- the cells of the states, and of a whole block
  abbrev D : ℕ
  D = z.states * z.highest

  abbrev B : ℕ
  B = z.block

  M_max : z.states ≤ 64
  M_max = ready.rewards.states_max

  vector_in : (n k : ℕ) → k < D → in_table (table_of ch R n) R k ≡ U ch n (k % R + 1) (k / R)
  vector_in n k b = in_table_lem ch R n k M_max g.highest_pos g.highest_max b

  room : (n k e : ℕ) → k < length levels → e < D → get_or (part_sums ch B levels w R n l) (k * B + e) 0 ≤ 1000 * GREATEST
  room n k e hk he =
      omega
      (arith, sums_at ch B levels w R l enough n k e hk (omega (arith, he, g.fitting.states_within)), part_max ch (row_from w k) R (min n (get_or levels k 0 + 1)) e ready.stochastic (λ j b. g.weight_max k j hk (omega arith)) he, g.level_max k hk)

  -- the terms of n may be added to the sums of those before
  pub may_add : (n : ℕ) (sums : List ℕ) (table : List (List ℕ)) → sums ≡ part_sums ch B levels w R n l → table ≡ table_of ch R n → AllAddable z n levels w sums table
  may_add n sums table es et =
      rw (es, et)
      (record {
        fitting = g.fitting;
        enough = omega (arith, enough, length_sums ch B levels w R l enough n);
        rows = g.rows;
        count_max = g.count_max;
        states_max = M_max;
        highest_pos = g.highest_pos;
        highest_max = g.highest_max;
        level_max = g.level_max;
        weight_max = λ k hk h. g.weight_max k n hk h;
        ticks_max = λ k b. rw (vector_in n k b) (U_bound ch ready.stochastic n (k % R + 1) (k / R) (state_of_cell k z.states R b));
        room = λ k e hk he. room n k e hk he;
      })

  -- and make the sums up to n
  pub added : (n : ℕ) (sums next : List ℕ) (table : List (List ℕ)) → sums ≡ part_sums ch B levels w R n l → table ≡ table_of ch R n → next ≡ blocks B (length levels) (λ k e. get_or sums (k * B + e) 0 + of_states D e (term_at (row_from w k) n (get_or levels k 0) (in_table table R e))) sums → next ≡ part_sums ch B levels w R (n + 1) l
  unfolding part_sums
  added n sums next table es et e =
      e
      ∙ blocks_again B 0 (length levels) _ _ l sums enough es
      ∙ blocks_same B (length levels) _ _ l
      (λ k i hk hi.
      ap₂ ◌+◌ (ap (λ (s : List ℕ). get_or s (k * B + i) 0) es ∙ sums_at ch B levels w R l enough n k i hk hi) (same_in_states D i _ _ (λ h. ap (term_at (row_from w k) n (get_or levels k 0)) (ap (λ (t : List (List ℕ)). in_table t R i) et ∙ vector_in n i h)))
      ∙ part_taken ch (row_from w k) R n (get_or levels k 0) i)

-- the terms of n may be added to block k, lent as a part of j entries while the blocks before it have theirs
pub addable_at : (z : Sizes) (n : ℕ) (levels w l : List ℕ) (table : List (List ℕ)) → AllAddable z n levels w l table → (k j : ℕ) → k < length levels → (f : ℕ → ℕ → ℕ) (now : List ℕ) → now ≡ blocks z.block k f l → z.block ≤ length (take j (drop (k * z.block) now)) → (row : List ℕ) → row ≡ row_from w k → n ≤ get_or levels k 0 → Addable z (get_or row n 0) (take j (drop (k * z.block) now)) table
addable_at z n levels w l table g k j hk f now e whole row er h =
    record {
      enough = omega (arith, whole, g.fitting.states_within);
      states_max = g.states_max;
      highest_pos = g.highest_pos;
      highest_max = g.highest_max;
      weight_max = rw er (g.weight_max k hk h);
      ticks_max = g.ticks_max;
      room = λ i b. rw (get_d_next z.block 0 k j f l now e whole i (omega (arith, b, g.fitting.states_within))) (g.room k i hk b);
    }
