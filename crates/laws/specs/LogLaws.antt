-- A whole log in one call: its stays one by one, what its table says, and the claim from what is left in the cells.
use Rattle.std.specs.Prelude.{ℕ, zero, suc, ◌+◌, ◌*◌, ◌-◌, ◌/◌, ◌%◌, ◌≤◌, ◌<◌, false, not, refl, length, take, eqb, ltb, List, [], ◌∷◌, ◌++◌, ◌≡◌, get_or}
use Rattle.std.proofs.Common.{arith, sym, ◌∙◌, eq-eqb, ne_eqb, ltb-false, add-one, ap, get_or-take}
use Rattle.std.proofs.Math.Decide.{ℕ_discrete}
use Rattle.std.proofs.lemmas.Bool.{or_parts}
use Rattle.definitions.specs.Sums.{sum, any_above, blocks}
use Rattle.definitions.specs.File.{state_count, place}
use Rattle.definitions.specs.Chain.{model_of, jump_rate, row_sum}
use Rattle.definitions.specs.Rules.{Answer, accepted, refused, room, judged_by}
use Rattle.definitions.specs.Fields.{fields_of}
use Rattle.definitions.specs.Stays.{Stay, start_rows, stay_answer, taken, lasts, rate_in}
use Rattle.definitions.specs.Log.{stay_at, offers, offered, most_stays, size_row, log_rows, log_outcome, answers_after, state_at, rates_after, RatesFromLog}
use Rattle.laws.specs.Rounding.{place_below}
use Rattle.laws.specs.SumLaws.{sum_mono, largest_le}
use Rattle.laws.specs.ListLaws.{get_d_over}
use Rattle.laws.specs.BlockLaws.{get_d_blocks}
use Rattle.laws.specs.RuleLaws.{NoneHold, none_hold, none_in_parts, also_refused, also_accepted}
use Rattle.laws.specs.RowLaws.{not_above}
use Rattle.laws.specs.FileLaws.{place_max, rate_stated}
use Rattle.laws.specs.StayLaws.{taken_none, taken_by, lasts_fine, row_rates, rate_max}

-- no stay yet, and one more
pub offers_none : (log : List ℕ) → offers log 0 ≡ []
unfolding offers
offers_none log = refl

pub offers_more : (log : List ℕ) (k : ℕ) → offers log (k + 1) ≡ stay_at log k ∷ offers log k
unfolding offers
offers_more log k = ap (offers log) (add-one k)

length_offers : (log : List ℕ) (n : ℕ) → length (offers log n) ≡ n
unfolding offers
length_offers log zero = refl
length_offers log (suc n) = omega (arith, length_offers log n)

-- no more are accepted than offered
taken_few : (M : ℕ) (o : List Stay) → length (taken M o) ≤ length o
taken_few M [] = rw (taken_none M) (omega arith)
taken_few M (s ∷ earlier) = from (taken_few M earlier) (stay_answer M s) refl
  where
    from : length (taken M earlier) ≤ length earlier → (a : Answer (Unit {0})) → stay_answer M s ≡ a → length (taken M (s ∷ earlier)) ≤ length (s ∷ earlier)
    from before (accepted x) e = rw (taken_by M s earlier (accepted x) e) (omega (arith, before))
    from before (refused k) e = rw (taken_by M s earlier (refused k) e) (omega (arith, before))

pub few_accepted : (M : ℕ) (log : List ℕ) (n : ℕ) → length (taken M (offers log n)) ≤ n
few_accepted M log n = omega (arith, taken_few M (offers log n), length_offers log n)

-- what the call's table lets pass
pub record LogPasses (M W size answers rates : ℕ) : Type 0 where
  pub starts : NoneHold (start_rows M W)
  pub stays_max : size / 3 ≤ most_stays
  pub answers_fit : size / 3 ≤ answers
  pub rates_fit : M * (M - 1) ≤ rates

pub log_passes : (M W size answers rates : ℕ) → judged_by (log_rows M W size answers rates) ≡ accepted tt → LogPasses M W size answers rates
unfolding room log_rows
log_passes M W size answers rates e =
    let rows = none_hold (log_rows M W size answers rates) (tt {0}) tt e in
    let first = none_in_parts (start_rows M W) (size_row size ++ room (size / 3) answers ++ room (M * (M - 1)) rates) rows in
    record {
      starts = first.0;
      stays_max = ltb-false most_stays (size / 3) (or_parts (not (eqb (size % 3) 0)) (ltb most_stays (size / 3)) first.1.0).1;
      answers_fit = ltb-false answers (size / 3) first.1.1.0;
      rates_fit = ltb-false rates (M * (M - 1)) first.1.1.1.0;
    }

-- the place of a state, and the state at a place
state_at_place : (i j : ℕ) → (j ≡ i → ⊥) → state_at i (place i j) ≡ j
state_at_place i j ne = grind arith

-- the rates that are read
module _ (M W : ℕ) (log rates : List ℕ) where
  abbrev last : List Stay
  last = lasts M W (offered log)

  abbrev rate_at : ℕ → ℕ → ℕ
  rate_at i k = rate_in (i + 1) (state_at i k + 1) last

  abbrev read : List ℕ
  read = blocks (M - 1) M rate_at rates

  each_max : (p : ℕ) → p < M * (M - 1) → get_or read p 0 ≤ 1000000
  unfolding blocks
  each_max p h = omega (arith, get_d_over 0 (M * (M - 1)) (λ q. rate_at (q / (M - 1)) (q % (M - 1))) rates p h, rate_max M (p / (M - 1) + 1) last (lasts_fine M W (offered log)) (state_at (p / (M - 1)) (p % (M - 1)) + 1))

  -- in a file that states them
  module _ (s : List ℕ) (states : state_count s ≡ M) (stated : (fields_of s).rates ≡ take (M * (M - 1)) read) where
    jump_is : (i j : ℕ) → i < M → j < M → jump_rate (model_of s) i j ≤ rate_in (i + 1) (suc j) last
    unfolding jump_rate
    jump_is i j li lj =
        elim (ℕ_discrete j i) [
          | yes e ↦ rw (eq-eqb j i e) (omega arith)
          | no ne ↦
              rw (ne_eqb j i ne)
              (let k = i * (M - 1) + place i j in
              let inside = place_below i (place i j) M (M - 1) li (place_max i j M li lj ne) in
              omega
              (arith, rate_stated s i j (rw states li) (rw states lj) ne, ap (λ (m : ℕ). get_or (fields_of s).rates (i * (m - 1) + place i j) 0) states, ap (λ (l : List ℕ). get_or l k 0) stated, get_or-take (M * (M - 1)) read k 0 inside, get_d_blocks (M - 1) 0 M rate_at rates i (place i j) li (place_max i j M li lj ne), ap (λ (x : ℕ). rate_in (i + 1) x last) (ap (λ (x : ℕ). x + 1) (state_at_place i j ne) ∙ add-one j)))
        ]

    sum_max : (i : ℕ) → i < M → row_sum (model_of s) i ≤ 1000000
    unfolding row_sum
    sum_max i li =
        omega
        (arith, ap (λ (m : ℕ). sum m (jump_rate (model_of s) i)) states, sum_mono M (jump_rate (model_of s) i) (λ j. rate_in (i + 1) (suc j) last) (λ j lj. jump_is i j li lj), row_rates M (i + 1) last (lasts_fine M W (offered log)))

    row_passes_11 : any_above 10000000 (state_count s) (row_sum (model_of s)) ≡ false
    row_passes_11 = not_above 10000000 (state_count s) (row_sum (model_of s)) (largest_le (state_count s) 10000000 (row_sum (model_of s)) (λ i l. omega (arith, sum_max i (rw (sym states) l))))

-- the claim: of a refusal, and of an acceptance
module _ (M W : ℕ) (log answers rates : List ℕ) where
  pub log_refused : (k : ℕ) → judged_by (log_rows M W (length log) (length answers) (length rates)) ≡ refused k → RatesFromLog M W log (refused k) answers answers rates rates
  log_refused k e =
      record {
        answer = sym (unfold log_outcome in also_refused (log_rows M W (length log) (length answers) (length rates)) tt _ k e);
        stays = refl;
        readings = refl;
        most = λ n same. no n same;
        sums = λ n same. no n same;
        row_11 = λ n same. no n same;
      }
    where
      no : {A : Type 0} (n : ℕ) → refused k ≡ accepted n → A
      no n same = cc

  pub log_accepted :
      judged_by (log_rows M W (length log) (length answers) (length rates)) ≡ accepted tt → (n : ℕ) (answered done : List ℕ) → n ≡ length (taken M (offered log)) →
      answered ≡ answers_after (accepted n) M log answers → done ≡ rates_after (accepted n) M W log rates → RatesFromLog M W log (accepted n) answers answered rates done
  log_accepted e n answered done count told filled =
      record {
        answer = sym (unfold log_outcome in also_accepted (log_rows M W (length log) (length answers) (length rates)) tt tt _ e ∙ ap accepted (sym count));
        stays = told;
        readings = filled;
        most = λ m same p h. omega (arith, ap (λ (l : List ℕ). get_or l p 0) filled, each_max M W log rates p h);
        sums = λ m same s states stated. sum_max M W log rates s states (stated ∙ ap (take (M * (M - 1))) filled);
        row_11 = λ m same s states stated. row_passes_11 M W log rates s states (stated ∙ ap (take (M * (M - 1))) filled);
      }
