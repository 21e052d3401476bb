-- Every record that comes from a start through stays keeps its last stays accepted, and so what is claimed of each call holds.
use Rattle.std.specs.Prelude.{ℕ, zero, suc, ◌-◌, ◌≤◌, Bool, true, false, List, [], ◌∷◌, ◌≡◌, refl, take, length, eqb, Result, Ok, Err}
use Rattle.std.proofs.Common.{arith, sym, ap, ap₂, ◌∙◌, subst, take_all, eq-eqb, ne_eqb}
use Rattle.std.proofs.Math.Decide.{ℕ_discrete}
use Rattle.std.proofs.Math.Seq.{take-nil}
use Rattle.definitions.specs.declared.Refusal.{Refusal}
use Rattle.definitions.specs.Refusal.{row_of}
use Rattle.definitions.specs.Sums.{sum, pick}
use Rattle.definitions.specs.Rules.{Answer, accepted, refused, judged_by, answer_of}
use Rattle.definitions.specs.Stays.{Stay, start_rows, pair_rows, stay_answer, by_answer, lasts, count_in, hours_in, rate_of, Tallied}
use Rattle.laws.specs.SumLaws.{sum_same}
use Rattle.laws.specs.RuleLaws.{accepted_is_no_refusal, none_hold, also_refused, also_accepted}
use Rattle.laws.specs.RowLaws.{in_range}
use Rattle.laws.specs.StayLaws.{Pair, pair_by, Fine, fine_by, taken_none, lasts_taken, lasts_refused, counts_sum, count_max, rate_most}
use Rattle.stays.specs.declared.Told.{Told}
use Rattle.stays.specs.Latest.{Latest, Keeps, left, entered, empty, pushed, stayed, started, reached_by}
use Rattle.stays.specs.Claims.{told, Comes, start_answer, start_record, StartClaim, StayClaim, RateClaim}
use Rattle.stays.specs.LatestLaws.{left_length, left_keeps, entered_keeps, empty_keeps}

-- a record that accepts a stay
module _ (r : Latest) (K : Keeps r) (s : Stay) (F : Fine r.states s) where
  pub pushed_keeps : Keeps (pushed r s)
  unfolding pushed
  pushed_keeps =
      elim (ℕ_discrete (length r.stays) r.window) [
        | yes full ↦ rw (eq-eqb _ _ full) (entered_keeps (left r) (left_keeps r K full) (omega (arith, left_length r K full, K.window_low)) s F)
        | no ne ↦ rw (ne_eqb _ _ ne) (entered_keeps r K (omega (arith, K.kept_max, ne)) s F)
      ]

  pub pushed_stays : (pushed r s).stays ≡ s ∷ take (r.window - 1) r.stays
  unfolding pushed
  pushed_stays =
      elim (ℕ_discrete (length r.stays) r.window) [
        | yes full ↦ rw (eq-eqb _ _ full) refl
        | no ne ↦ rw (ne_eqb _ _ ne) (ap (λ (l : List Stay). s ∷ l) (sym (take_all (r.window - 1) r.stays (omega (arith, K.kept_max, ne)))))
      ]

-- a stay, by its answer; M and the window size stay those of the start
module _ (r : Latest) (s : Stay) where
  pub stayed_by : (a : Answer (Unit {0})) → stay_answer r.states s ≡ a → stayed r s ≡ by_answer a (pushed r s) r
  unfolding stayed
  stayed_by a e = ap (λ (x : Answer (Unit {0})). by_answer x (pushed r s) r) e

  pushed_fixed : (full : Bool) → ((entered (pick full (left r) r) s).states ≡ r.states) × ((entered (pick full (left r) r) s).window ≡ r.window)
  pushed_fixed true = (refl, refl)
  pushed_fixed false = (refl, refl)

  by_fixed : (a : Answer (Unit {0})) → ((by_answer a (pushed r s) r).states ≡ r.states) × ((by_answer a (pushed r s) r).window ≡ r.window)
  unfolding pushed
  by_fixed (accepted x) = pushed_fixed (eqb (length r.stays) r.window)
  by_fixed (refused k) = (refl, refl)

  stayed_fixed : ((stayed r s).states ≡ r.states) × ((stayed r s).window ≡ r.window)
  unfolding stayed
  stayed_fixed = by_fixed (stay_answer r.states s)

  stayed_keeps : Keeps r → Keeps (stayed r s)
  stayed_keeps K = from (stay_answer r.states s) refl
    where
      from : (a : Answer (Unit {0})) → stay_answer r.states s ≡ a → Keeps (stayed r s)
      from (accepted x) e = rw (stayed_by (accepted tt) e) (pushed_keeps r K s (fine_by r.states s e))
      from (refused k) e = rw (stayed_by (refused k) e) K

-- a record that these stays were offered to keeps the last that it accepted
pub record Current (r : Latest) (offered : List Stay) : Type 0 where
  pub keeps : Keeps r
  pub lasts_are : r.stays ≡ lasts r.states r.window offered

-- after one more
stayed_current : (r : Latest) (s : Stay) (offered : List Stay) → Current r offered → Current (stayed r s) (s ∷ offered)
stayed_current r s offered C =
    record {
      keeps = stayed_keeps r s C.keeps;
      lasts_are = from (stay_answer r.states s) refl ∙ sym (ap₂ (λ M W. lasts M W (s ∷ offered)) (stayed_fixed r s).0 (stayed_fixed r s).1);
    }
  where
    from : (a : Answer (Unit {0})) → stay_answer r.states s ≡ a → (stayed r s).stays ≡ lasts r.states r.window (s ∷ offered)
    from (accepted x) e =
        ap (λ (l : Latest). l.stays) (stayed_by r s (accepted tt) e)
        ∙ pushed_stays r C.keeps s (fine_by r.states s e)
        ∙ ap (λ (l : List Stay). s ∷ take (r.window - 1) l) C.lasts_are
        ∙ sym (lasts_taken r.states r.window s offered C.keeps.window_low e)
    from (refused k) e = ap (λ (l : Latest). l.stays) (stayed_by r s (refused k) e) ∙ C.lasts_are ∙ sym (lasts_refused r.states r.window s offered k e)

-- after a start
pub started_by : (M W : ℕ) (a : Answer (Unit {0})) → judged_by (start_rows M W) ≡ a → started M W ≡ by_answer a (empty M W) (empty 1 1)
unfolding started
started_by M W a e = ap (λ (x : Answer (Unit {0})). by_answer x (empty M W) (empty 1 1)) e

lasts_none : (M W : ℕ) → [] ≡ lasts M W []
unfolding lasts
lasts_none M W = sym (ap (take W) (taken_none M) ∙ take-nil W)

empty_current : (M W : ℕ) → 1 ≤ M → M ≤ 64 → 1 ≤ W → W ≤ 256 → Current (empty M W) []
empty_current M W a b c d = record { keeps = empty_keeps M W a b c d; lasts_are = lasts_none M W }

-- M and the window size of a start that is accepted
pub record Fits (M W : ℕ) : Type 0 where
  pub states_low : 1 ≤ M
  pub states_max : M ≤ 64
  pub window_low : 1 ≤ W
  pub window_max : W ≤ 256

pub start_fits : (M W : ℕ) → judged_by (start_rows M W) ≡ accepted tt → Fits M W
start_fits M W e =
    let rows = none_hold (start_rows M W) (tt {0}) tt e in
    let states = in_range 1 64 M rows.0 in
    let window = in_range 1 256 W rows.1.0 in
    record { states_low = states.0; states_max = states.1; window_low = window.0; window_max = window.1 }

started_current : (M W : ℕ) → Current (started M W) []
started_current M W = from (judged_by (start_rows M W)) refl
  where
    from : (a : Answer (Unit {0})) → judged_by (start_rows M W) ≡ a → Current (started M W) []
    from (accepted x) e =
        let f = start_fits M W e in
        rw (started_by M W (accepted tt) e) (empty_current M W f.states_low f.states_max f.window_low f.window_max)
    from (refused k) e = rw (started_by M W (refused k) e) (empty_current 1 1 (omega arith) (omega arith) (omega arith) (omega arith))

-- every record that comes from a start through stays
reached_current : (M W : ℕ) (offered : List Stay) → Current (reached_by M W offered) offered
unfolding reached_by
reached_current M W [] = started_current M W
reached_current M W (s ∷ earlier) = stayed_current (reached_by M W earlier) s earlier (reached_current M W earlier)

pub comes_current : (r : Latest) (M W : ℕ) (offered : List Stay) → Comes r M W offered → Current r offered
comes_current r M W offered e = subst (λ (x : Latest). Current x offered) (sym e) (reached_current M W offered)

-- its counts and hours
module _ (r : Latest) (K : Keeps r) where
  pub count_told : (i j : ℕ) → 1 ≤ i → i ≤ r.states → 1 ≤ j → j ≤ r.states → (told r).count i j ≡ count_in i j r.stays
  count_told i j a b c d = K.counts_are i j a (omega (arith, K.states_max)) c (omega (arith, K.states_max))

  pub hours_told : (i : ℕ) → 1 ≤ i → i ≤ r.states → (told r).hours i ≡ hours_in i r.stays
  hours_told i a b = K.hours_are i a (omega (arith, K.states_max))

current_tallied : (r : Latest) (offered : List Stay) → Current r offered → Tallied (told r) offered
current_tallied r offered C =
    let M = r.states in
    let l = r.stays in
    let K = C.keeps in
    record {
      counts = λ i j a b c d. count_told r K i j a b c d ∙ ap (count_in i j) C.lasts_are;
      hours = λ i a b. hours_told r K i a b ∙ ap (hours_in i) C.lasts_are;
      number =
          sum_same M (λ i. sum M (λ j. (told r).count (suc i) (suc j))) (λ i. sum M (λ j. count_in (suc i) (suc j) l))
          (λ i b. sum_same M (λ j. (told r).count (suc i) (suc j)) (λ j. count_in (suc i) (suc j) l) (λ j d. count_told r K (suc i) (suc j) (omega arith) (omega arith) (omega arith) (omega arith)))
          ∙ counts_sum M l K.fine
          ∙ ap length C.lasts_are;
    }

-- the claims
comes_from_start : (r : Latest) (M W : ℕ) → r ≡ started M W → Comes r M W []
unfolding reached_by
comes_from_start r M W e = e

comes_further : (r next : Latest) (s : Stay) (M W : ℕ) (offered : List Stay) → next ≡ stayed r s → Comes r M W offered → Comes next M W (s ∷ offered)
unfolding reached_by
comes_further r next s M W offered is e = is ∙ ap (λ (x : Latest). stayed x s) e

module _ (M W : ℕ) (a : Result Latest Told) where
  pub start_claim : start_answer a ≡ judged_by (start_rows M W) → start_record a ≡ started M W → StartClaim M W a
  start_claim answers is =
      record {
        answer = answers;
        fixed = λ e. rw (is, started_by M W (accepted tt) (sym answers ∙ e)) (refl, refl);
        comes = comes_from_start (start_record a) M W is;
        tallied = current_tallied (start_record a) [] (subst (λ (x : Latest). Current x []) (sym is) (started_current M W));
      }

-- a start that is refused has the record of one state; one that is accepted, that of M states
module _ (M W : ℕ) where
  pub start_refused : (t : Told) → refused (row_of t.answer) ≡ judged_by (start_rows M W) → t.latest ≡ empty 1 1 → StartClaim M W (Err t)
  start_refused t answers is = start_claim M W (Err t) answers (is ∙ sym (started_by M W (refused (row_of t.answer)) (sym answers)))

  pub start_accepted : (r : Latest) → accepted tt ≡ judged_by (start_rows M W) → r ≡ empty M W → StartClaim M W (Ok r)
  start_accepted r answers is = start_claim M W (Ok r) answers (is ∙ sym (started_by M W (accepted tt) (sym answers)))

-- a stay, of any record
module _ (r : Latest) (s : Stay) (a : Result (Unit {0}) Refusal) (next : Latest) (answers : answer_of a ≡ stay_answer r.states s) (is : next ≡ stayed r s) where
  pub stay_unaltered : (k : ℕ) → answer_of a ≡ refused k → next ≡ r
  stay_unaltered k e = is ∙ stayed_by r s (refused k) (sym answers ∙ e)

  pub stay_fixed : (next.states ≡ r.states) × (next.window ≡ r.window)
  stay_fixed = rw is (stayed_fixed r s)

  pub stay_comes : (M W : ℕ) (offered : List Stay) → Comes r M W offered → Comes next M W (s ∷ offered)
  stay_comes M W offered e = comes_further r next s M W offered is e

  pub stay_tallied : (M W : ℕ) (offered : List Stay) → Comes r M W offered → Tallied (told next) (s ∷ offered)
  stay_tallied M W offered e = current_tallied next (s ∷ offered) (subst (λ (x : Latest). Current x (s ∷ offered)) (sym is) (stayed_current r s offered (comes_current r M W offered e)))

  -- and of one that keeps its last stays
  pub stay_claim : Keeps r → StayClaim r s a next
  stay_claim K =
      record {
        answer = answers;
        unaltered = stay_unaltered;
        fixed = stay_fixed;
        kept = λ e.
            let passed = sym answers ∙ e in
            ap (λ (l : Latest). l.stays) (is ∙ stayed_by r s (accepted tt) passed)
            ∙ pushed_stays r K s (fine_by r.states s passed)
            ∙ first r.window K.window_low;
        comes = stay_comes;
        tallied = stay_tallied;
      }
    where
      first : (n : ℕ) → 1 ≤ n → s ∷ take (n - 1) r.stays ≡ take n (s ∷ r.stays)
      first zero h = absurd (omega arith)
      first (suc n) h = let back : suc n - 1 ≡ n = omega arith in ap (λ (k : ℕ). s ∷ take k r.stays) back

module _ (r : Latest) (i j : ℕ) where
  pub rate_refused : (e : Refusal) → judged_by (pair_rows r.states i j) ≡ refused (row_of e) → RateClaim r i j (Err e)
  rate_refused e stops =
      record {
        read = sym (also_refused (pair_rows r.states i j) tt _ (row_of e) stops);
        answer = λ M W offered from. sym (also_refused (pair_rows r.states i j) tt _ (row_of e) stops);
        most = λ x same. absurd (accepted_is_no_refusal x (row_of e) (sym same));
      }

  module _ (passed : judged_by (pair_rows r.states i j) ≡ accepted tt) where
    pub pair_read : Pair r.states i j
    pair_read = pair_by r.states i j (none_hold (pair_rows r.states i j) (tt {0}) tt passed).0

    -- the count is at most the hours
    pub few_read : Keeps r → (told r).count i j ≤ (told r).hours i
    few_read K =
        let p = pair_read in
        omega (arith, count_told r K i j p.from_low p.from_high p.to_low p.to_high, hours_told r K i p.from_low p.from_high, count_max r.states i r.stays K.fine j)

    pub rate_read : Keeps r → (x : ℕ) → x ≡ rate_of ((told r).count i j) ((told r).hours i) → RateClaim r i j (Ok x)
    rate_read K x e =
        let p = pair_read in
        let here : x ≡ rate_of (count_in i j r.stays) (hours_in i r.stays) = e ∙ ap₂ rate_of (count_told r K i j p.from_low p.from_high p.to_low p.to_high) (hours_told r K i p.from_low p.from_high) in
        record {
          read = sym (also_accepted (pair_rows r.states i j) tt tt _ passed ∙ ap accepted (sym here));
          answer = λ M W offered from.
              let same = (comes_current r M W offered from).lasts_are in
              sym (also_accepted (pair_rows r.states i j) tt tt _ passed ∙ ap accepted (sym (here ∙ ap (λ (l : List Stay). rate_of (count_in i j l) (hours_in i l)) same)));
          most = λ y same.
              let one : x ≡ y = cc in
              omega (arith, one, e, rate_most ((told r).count i j) ((told r).hours i) (few_read K));
        }
