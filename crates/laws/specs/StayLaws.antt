-- Stays (document 02, S-12): which are accepted, their tallies, and that no row of rates sums to more than 1,000,000.
use Rattle.std.specs.Prelude.{ℕ, zero, suc, ◌+◌, ◌*◌, ◌-◌, ◌≤◌, ◌<◌, List, [], ◌∷◌, false, ◌≡◌, refl, length, get_or, take}
use Rattle.std.proofs.Common.{arith, le_of_mul-le-mul_right, sym, ◌∙◌, take-take, eq-eqb, ne_eqb, ap}
use Rattle.std.proofs.Math.Decide.{ℕ_discrete}
use Rattle.definitions.specs.Sums.{sum}
use Rattle.definitions.specs.Rules.{Answer, accepted, refused}
use Rattle.definitions.specs.Stays.{Stay, no_pair, stay_rows, stay_answer, by_answer, taken, lasts, tally, goes, spends, count_in, hours_in, rate_of, rate_in}
use Rattle.laws.specs.SumLaws.{sum_same, sum_mono, sum_plus, sum_none, sum_single, sum_times}
use Rattle.laws.specs.RuleLaws.{none_hold}
use Rattle.laws.specs.RowLaws.{in_range}

-- two different states from 1 to M
pub record Pair (M i j : ℕ) : Type 0 where
  pub from_low : 1 ≤ i
  pub from_high : i ≤ M
  pub to_low : 1 ≤ j
  pub to_high : j ≤ M
  pub apart : i ≡ j → ⊥

-- row 20 passes just these
module _ (M i j : ℕ) where
  pub pair_by : no_pair M i j ≡ false → Pair M i j
  pair_by h = grind arith

  pub pair_passes : Pair M i j → no_pair M i j ≡ false
  pair_passes h = grind arith

-- what a stay is that is accepted with M states
pub record Fine (M : ℕ) (s : Stay) : Type 0 where
  pub from_low : 1 ≤ s.from
  pub from_high : s.from ≤ M
  pub to_low : 1 ≤ s.to
  pub to_high : s.to ≤ M
  pub hours_low : 1 ≤ s.hours
  pub hours_high : s.hours ≤ 10000

pub fine_by : (M : ℕ) (s : Stay) → stay_answer M s ≡ accepted tt → Fine M s
fine_by M s e =
    let rows = none_hold (stay_rows M s) (tt {0}) tt e in
    let pair = pair_by M s.from s.to rows.0 in
    let hours = in_range 1 10000 s.hours rows.1.0 in
    record { from_low = pair.from_low; from_high = pair.from_high; to_low = pair.to_low; to_high = pair.to_high; hours_low = hours.0; hours_high = hours.1 }

-- each stay of a list is
abbrev pub AllFine : ℕ → List Stay → Type 0
AllFine M [] = Unit {0}
AllFine M (s ∷ l) = Fine M s × AllFine M l

-- no stay, for what stands past a list's end
abbrev pub no_stay : Stay
no_stay = record { from = 0; to = 0; hours = 0 }

module _ (M : ℕ) where
  pub fine_at : (l : List Stay) (k : ℕ) → AllFine M l → k < length l → Fine M (get_or l k no_stay)
  fine_at [] k fine h = absurd (omega arith)
  fine_at (s ∷ l) zero fine h = fine.0
  fine_at (s ∷ l) (suc k) fine h = fine_at l k fine.1 (omega arith)

  pub fine_take : (n : ℕ) (l : List Stay) → AllFine M l → AllFine M (take n l)
  fine_take zero l fine = tt
  fine_take (suc n) [] fine = tt
  fine_take (suc n) (s ∷ l) fine = (fine.0, fine_take n l fine.1)

-- one stay more is offered
module _ (M : ℕ) (s : Stay) (earlier : List Stay) where
  pub taken_by : (a : Answer (Unit {0})) → stay_answer M s ≡ a → taken M (s ∷ earlier) ≡ by_answer a (s ∷ taken M earlier) (taken M earlier)
  unfolding taken
  taken_by a e = ap (λ (x : Answer (Unit {0})). by_answer x (s ∷ taken M earlier) (taken M earlier)) e

pub taken_none : (M : ℕ) → taken M [] ≡ []
unfolding taken
taken_none M = refl

-- what is accepted is fine
pub taken_fine : (M : ℕ) (offered : List Stay) → AllFine M (taken M offered)
taken_fine M [] = rw (taken_none M) tt
taken_fine M (s ∷ earlier) = from (taken_fine M earlier) (stay_answer M s) refl
  where
    from : AllFine M (taken M earlier) → (a : Answer (Unit {0})) → stay_answer M s ≡ a → AllFine M (taken M (s ∷ earlier))
    from before (accepted x) e = rw (taken_by M s earlier (accepted x) e) (fine_by M s e, before)
    from before (refused k) e = rw (taken_by M s earlier (refused k) e) before

pub lasts_fine : (M W : ℕ) (offered : List Stay) → AllFine M (lasts M W offered)
unfolding lasts
lasts_fine M W offered = fine_take M W (taken M offered) (taken_fine M offered)

-- the last ones after one more: it is the newest, and the oldest leaves a full window; or they stay as they are
module _ (M W : ℕ) (s : Stay) (earlier : List Stay) where
  pub lasts_taken : 1 ≤ W → stay_answer M s ≡ accepted tt → lasts M W (s ∷ earlier) ≡ s ∷ take (W - 1) (lasts M W earlier)
  unfolding lasts
  lasts_taken some e = ap (take W) (taken_by M s earlier (accepted tt) e) ∙ first W some
    where
      first : (n : ℕ) → 1 ≤ n → take n (s ∷ taken M earlier) ≡ s ∷ take (n - 1) (take n (taken M earlier))
      first zero h = absurd (omega arith)
      first (suc n) h =
          let back : suc n - 1 ≡ n = omega arith in
          ap (λ (m : List Stay). s ∷ m) (sym (take-take n (suc n) (taken M earlier) (omega arith)) ∙ ap (λ (k : ℕ). take k (take (suc n) (taken M earlier))) (sym back))

  pub lasts_refused : (k : ℕ) → stay_answer M s ≡ refused k → lasts M W (s ∷ earlier) ≡ lasts M W earlier
  unfolding lasts
  lasts_refused k e = ap (take W) (taken_by M s earlier (refused k) e)

-- tallies
pub tally_none : (f : Stay → ℕ) → tally f [] ≡ 0
unfolding tally
tally_none f = refl

pub tally_first : (f : Stay → ℕ) (s : Stay) (l : List Stay) → tally f (s ∷ l) ≡ f s + tally f l
unfolding tally
tally_first f s l = refl

-- the last of a list apart
pub tally_last : (f : Stay → ℕ) (n : ℕ) (l : List Stay) → length l ≡ n + 1 → tally f l ≡ tally f (take n l) + f (get_or l n no_stay)
tally_last f n [] e = absurd (omega arith)
tally_last f zero (s ∷ []) e = omega (arith, tally_first f s [], tally_none f)
tally_last f zero (s ∷ t ∷ l) e = absurd (omega arith)
tally_last f (suc n) (s ∷ l) e = omega (arith, tally_first f s l, tally_first f s (take n l), tally_last f n l (omega arith))

-- what holds of each stay holds of the tally
module _ (M : ℕ) where
  tally_mono : (f g : Stay → ℕ) → ((s : Stay) → Fine M s → f s ≤ g s) → (l : List Stay) → AllFine M l → tally f l ≤ tally g l
  tally_mono f g each [] fine = omega (arith, tally_none f, tally_none g)
  tally_mono f g each (s ∷ l) fine = omega (arith, tally_first f s l, tally_first g s l, each s fine.0, tally_mono f g each l fine.1)

  pub tally_max : (f : Stay → ℕ) (c : ℕ) → ((s : Stay) → Fine M s → f s ≤ c) → (l : List Stay) → AllFine M l → tally f l ≤ c * length l
  tally_max f c each [] fine = omega (arith, tally_none f)
  tally_max f c each (s ∷ l) fine = omega (arith, tally_first f s l, each s fine.0, tally_max f c each l fine.1)

-- what a stay brings
pub goes_here : (i j : ℕ) (s : Stay) → s.from ≡ i → s.to ≡ j → goes i j s ≡ 1
unfolding goes
goes_here i j s a b = rw (eq-eqb _ _ a) (rw (eq-eqb _ _ b) refl)

pub goes_else : (i j : ℕ) (s : Stay) → (s.from ≡ i → s.to ≡ j → ⊥) → goes i j s ≡ 0
unfolding goes
goes_else i j s ne = grind arith

pub spends_here : (i : ℕ) (s : Stay) → s.from ≡ i → spends i s ≡ s.hours
unfolding spends
spends_here i s e = rw (eq-eqb _ _ e) refl

pub spends_else : (i : ℕ) (s : Stay) → (s.from ≡ i → ⊥) → spends i s ≡ 0
unfolding spends
spends_else i s ne = rw (ne_eqb _ _ ne) refl

pub goes_max : (i j : ℕ) (s : Stay) → goes i j s ≤ 1
goes_max i j s = grind (arith, goes_here, goes_else)

pub spends_max : {M : ℕ} (i : ℕ) (s : Stay) → Fine M s → spends i s ≤ 10000
spends_max i s fine = elim (ℕ_discrete s.from i) [ yes e ↦ omega (arith, spends_here i s e, fine.hours_high) | no ne ↦ omega (arith, spends_else i s ne) ]

-- a stay goes to one state: summed over all j it is at most one, and none where it is not from i
to_one : (M i : ℕ) (s : Stay) → Fine M s → sum M (λ j. goes i (suc j) s) ≡ goes i s.to s
to_one M i s fine =
    let t : suc (s.to - 1) ≡ s.to = omega (arith, fine.to_low) in
    sum_single M (s.to - 1) (λ j. goes i (suc j) s) (omega (arith, fine.to_low, fine.to_high)) (λ j b ne. goes_else i (suc j) s (λ x y. ne (omega (arith, y))))
    ∙ ap (λ (j : ℕ). goes i j s) t

-- each stay has at least one hour: the counts out of a state are at most its hours
module _ (M i : ℕ) where
  once : (j : ℕ) (s : Stay) → Fine M s → goes i j s ≤ spends i s
  once j s fine = grind (arith, goes_max, spends_here, goes_else)

  row_max : (l : List Stay) → AllFine M l → sum M (λ j. count_in i (suc j) l) ≤ hours_in i l
  row_max [] fine = omega (arith, sum_none M (λ j. count_in i (suc j) []) (λ j b. tally_none (goes i (suc j))))
  row_max (s ∷ l) fine =
      omega
      (arith, sum_same M (λ j. count_in i (suc j) (s ∷ l)) (λ j. goes i (suc j) s + count_in i (suc j) l) (λ j b. tally_first (goes i (suc j)) s l), sum_plus M (λ j. goes i (suc j) s) (λ j. count_in i (suc j) l), to_one M i s fine.0, once s.to s fine.0, row_max l fine.1, tally_first (spends i) s l)

-- the counts sum to the number of stays
module _ (M : ℕ) where
  one_each : (s : Stay) → Fine M s → sum M (λ i. sum M (λ j. goes (suc i) (suc j) s)) ≡ 1
  one_each s fine =
      let f : suc (s.from - 1) ≡ s.from = omega (arith, fine.from_low) in
      sum_same M (λ i. sum M (λ j. goes (suc i) (suc j) s)) (λ i. goes (suc i) s.to s) (λ i b. to_one M (suc i) s fine)
      ∙ sum_single M (s.from - 1) (λ i. goes (suc i) s.to s) (omega (arith, fine.from_low, fine.from_high)) (λ i b ne. goes_else (suc i) s.to s (λ x y. ne (omega (arith, x))))
      ∙ goes_here (suc (s.from - 1)) s.to s (sym f) refl

  pub counts_sum : (l : List Stay) → AllFine M l → sum M (λ i. sum M (λ j. count_in (suc i) (suc j) l)) ≡ length l
  counts_sum [] fine = sum_none M (λ i. sum M (λ j. count_in (suc i) (suc j) [])) (λ i b. sum_none M (λ j. count_in (suc i) (suc j) []) (λ j c. tally_none (goes (suc i) (suc j))))
  counts_sum (s ∷ l) fine =
      sum_same M (λ i. sum M (λ j. count_in (suc i) (suc j) (s ∷ l))) (λ i. sum M (λ j. goes (suc i) (suc j) s) + sum M (λ j. count_in (suc i) (suc j) l))
      (λ i b.
      sum_same M (λ j. count_in (suc i) (suc j) (s ∷ l)) (λ j. goes (suc i) (suc j) s + count_in (suc i) (suc j) l) (λ j c. tally_first (goes (suc i) (suc j)) s l)
      ∙ sum_plus M (λ j. goes (suc i) (suc j) s) (λ j. count_in (suc i) (suc j) l))
      ∙ sum_plus M (λ i. sum M (λ j. goes (suc i) (suc j) s)) (λ i. sum M (λ j. count_in (suc i) (suc j) l))
      ∙ omega (arith, one_each s fine.0, counts_sum l fine.1)

-- a rate times the hours is at most the count times 1,000,000
rate_times : (count hours : ℕ) → rate_of count hours * hours ≤ count * 1000000
rate_times count hours = grind arith

-- a quotient of 1,000,000 times no more than the hours by the hours is at most 1,000,000
within : (count hours rate : ℕ) → count ≤ hours → rate * hours ≤ count * 1000000 → (hours ≡ 0 → rate ≡ 0) → rate ≤ 1000000
within count hours rate few product none =
    elim (ℕ_discrete hours 0) [
      | yes e ↦ omega (arith, none e)
      | no ne ↦ le_of_mul-le-mul_right {k = hours} (omega arith) (omega (arith, ne))
    ]

pub rate_most : (count hours : ℕ) → count ≤ hours → rate_of count hours ≤ 1000000
rate_most count hours few = within count hours (rate_of count hours) few (rate_times count hours) (λ e. rw (eq-eqb _ _ e) refl)

-- a rate, and a row's sum of rates, is at most 1,000,000
module _ (M i : ℕ) (l : List Stay) (fine : AllFine M l) where
  pub count_max : (j : ℕ) → count_in i j l ≤ hours_in i l
  count_max j = tally_mono M (goes i j) (spends i) (λ s f. once M i j s f) l fine

  pub rate_max : (j : ℕ) → rate_in i j l ≤ 1000000
  rate_max j = rate_most (count_in i j l) (hours_in i l) (count_max j)

  pub row_rates : sum M (λ j. rate_in i (suc j) l) ≤ 1000000
  row_rates =
      within (sum M (λ j. count_in i (suc j) l)) (hours_in i l) (sum M (λ j. rate_in i (suc j) l)) (row_max M i l fine)
      (omega
      (arith, sum_times M (hours_in i l) (λ j. rate_in i (suc j) l), sum_times M 1000000 (λ j. count_in i (suc j) l), sum_mono M (λ j. rate_in i (suc j) l * hours_in i l) (λ j. count_in i (suc j) l * 1000000) (λ j b. rate_times (count_in i (suc j) l) (hours_in i l))))
      (λ e. sum_none M (λ j. rate_in i (suc j) l) (λ j b. rw (eq-eqb _ _ e) refl))
