-- A record that keeps stays with their tally still does as the oldest leaves and as a new one enters.
use Rattle.std.specs.Prelude.{ℕ, ◌+◌, ◌*◌, ◌-◌, ◌≤◌, ◌<◌, List, ◌∷◌, ◌≡◌, refl, length, get_or, take}
use Rattle.std.proofs.Common.{arith, sym, ap, ◌∙◌, length-set, length-take-le, get_or-set_same, get_or-set_other}
use Rattle.std.proofs.Math.Decide.{ℕ_discrete}
use Rattle.std.proofs.lemmas.List.{length-replicate, get_or-replicate}
use Rattle.definitions.specs.Stays.{Stay, tally, goes, spends, count_in, hours_in}
use Rattle.laws.specs.StayLaws.{Fine, tally_none, tally_first, tally_last, tally_max, fine_at, fine_take, goes_here, goes_else, goes_max, spends_here, spends_else, spends_max}
use Rattle.stays.specs.Latest.{Latest, Keeps, oldest, left, entered, empty}

-- the oldest of a full window, and what is left of the record without it
module _ (r : Latest) (K : Keeps r) (full : length r.stays ≡ r.window) where
  abbrev old : Stay
  old = oldest r

  abbrev rest : List Stay
  rest = take (r.window - 1) r.stays

  pub oldest_fine : Fine r.states (oldest r)
  oldest_fine = fine_at r.states r.stays (r.window - 1) K.fine (omega (arith, K.window_low))

  parted : (f : Stay → ℕ) → tally f r.stays ≡ tally f rest + f old
  parted f = tally_last f (r.window - 1) r.stays (omega (arith, K.window_low))

  -- the record that the oldest leaves holds its count and its hours
  pub counted : 1 ≤ get_or r.counts ((oldest r).from * 64 + (oldest r).to - 65) 0
  counted =
      let F = oldest_fine in
      omega
      (arith, K.counts_are old.from old.to F.from_low (omega (arith, F.from_high, K.states_max)) F.to_low (omega (arith, F.to_high, K.states_max)), parted (goes old.from old.to), goes_here old.from old.to old refl refl)

  pub spent : (oldest r).hours ≤ get_or r.hours ((oldest r).from - 1) 0
  spent =
      let F = oldest_fine in
      omega
      (arith, K.hours_are old.from F.from_low (omega (arith, F.from_high, K.states_max)), parted (spends old.from), spends_here old.from old refl)

  count_left : (i j : ℕ) → 1 ≤ i → i ≤ 64 → 1 ≤ j → j ≤ 64 → get_or (left r).counts (i * 64 + j - 65) 0 ≡ count_in i j rest
  count_left i j a b c d =
      let F = oldest_fine in
      let at = old.from * 64 + old.to - 65 in
      elim (ℕ_discrete (i * 64 + j - 65) at) [
        | yes e ↦
            let same : old.from ≡ i = omega (arith, F.from_low, F.from_high, F.to_low, F.to_high, K.states_max) in
            let same2 : old.to ≡ j = omega (arith, F.from_low, F.from_high, F.to_low, F.to_high, K.states_max) in
            ap (λ (p : ℕ). get_or (left r).counts p 0) e
            ∙ get_or-set_same r.counts at _ 0 (omega (arith, K.counts_size, F.from_low, F.from_high, F.to_low, F.to_high, K.states_max))
            ∙ omega (arith, ap (λ (p : ℕ). get_or r.counts p 0) e, K.counts_are i j a b c d, parted (goes i j), goes_here i j old same same2)
        | no ne ↦
            get_or-set_other r.counts at (i * 64 + j - 65) _ 0 ne
            ∙ omega (arith, K.counts_are i j a b c d, parted (goes i j), goes_else i j old (λ x y. ne (omega (arith, x, y))))
      ]

  hours_left : (i : ℕ) → 1 ≤ i → i ≤ 64 → get_or (left r).hours (i - 1) 0 ≡ hours_in i rest
  hours_left i a b =
      let F = oldest_fine in
      elim (ℕ_discrete (i - 1) (old.from - 1)) [
        | yes e ↦
            let same : old.from ≡ i = omega (arith, F.from_low) in
            ap (λ (p : ℕ). get_or (left r).hours p 0) e
            ∙ get_or-set_same r.hours (old.from - 1) _ 0 (omega (arith, K.hours_size, F.from_low, F.from_high, K.states_max))
            ∙ omega (arith, ap (λ (p : ℕ). get_or r.hours p 0) e, K.hours_are i a b, parted (spends i), spends_here i old same)
        | no ne ↦
            get_or-set_other r.hours (old.from - 1) (i - 1) _ 0 ne
            ∙ omega (arith, K.hours_are i a b, parted (spends i), spends_else i old (λ x. ne (omega (arith, x))))
      ]

  pub left_length : length (take (r.window - 1) r.stays) ≡ r.window - 1
  left_length = length-take-le (r.window - 1) r.stays (omega arith)

  pub left_keeps : Keeps (left r)
  left_keeps =
      record {
        states_low = K.states_low;
        states_max = K.states_max;
        window_low = K.window_low;
        window_max = K.window_max;
        kept_max = omega (arith, left_length);
        fine = fine_take r.states (r.window - 1) r.stays K.fine;
        counts_size = length-set r.counts _ _ ∙ K.counts_size;
        hours_size = length-set r.hours _ _ ∙ K.hours_size;
        counts_are = count_left;
        hours_are = hours_left;
      }

-- a stay enters
module _ (r : Latest) (K : Keeps r) (room : length r.stays < r.window) (s : Stay) (F : Fine r.states s) where
  abbrev at : ℕ
  at = s.from * 64 + s.to - 65

  -- the tallies of a window are far from what their places hold
  pub count_room : get_or r.counts (s.from * 64 + s.to - 65) 0 ≤ 256
  count_room =
      omega
      (arith, K.counts_are s.from s.to F.from_low (omega (arith, F.from_high, K.states_max)) F.to_low (omega (arith, F.to_high, K.states_max)), tally_max r.states (goes s.from s.to) 1 (λ t f. goes_max s.from s.to t) r.stays K.fine, K.window_max)

  pub hours_room : get_or r.hours (s.from - 1) 0 ≤ 2560000
  hours_room =
      omega
      (arith, K.hours_are s.from F.from_low (omega (arith, F.from_high, K.states_max)), tally_max r.states (spends s.from) 10000 (λ t f. spends_max s.from t f) r.stays K.fine, K.window_max)

  count_entered : (i j : ℕ) → 1 ≤ i → i ≤ 64 → 1 ≤ j → j ≤ 64 → get_or (entered r s).counts (i * 64 + j - 65) 0 ≡ count_in i j (s ∷ r.stays)
  count_entered i j a b c d =
      elim (ℕ_discrete (i * 64 + j - 65) at) [
        | yes e ↦
            let same : s.from ≡ i = omega (arith, F.from_low, F.from_high, F.to_low, F.to_high, K.states_max) in
            let same2 : s.to ≡ j = omega (arith, F.from_low, F.from_high, F.to_low, F.to_high, K.states_max) in
            ap (λ (p : ℕ). get_or (entered r s).counts p 0) e
            ∙ get_or-set_same r.counts at _ 0 (omega (arith, K.counts_size, F.from_high, F.to_high, K.states_max, F.from_low, F.to_low))
            ∙ omega (arith, ap (λ (p : ℕ). get_or r.counts p 0) e, K.counts_are i j a b c d, tally_first (goes i j) s r.stays, goes_here i j s same same2)
        | no ne ↦
            get_or-set_other r.counts at (i * 64 + j - 65) _ 0 ne
            ∙ omega (arith, K.counts_are i j a b c d, tally_first (goes i j) s r.stays, goes_else i j s (λ x y. ne (omega (arith, x, y))))
      ]

  hours_entered : (i : ℕ) → 1 ≤ i → i ≤ 64 → get_or (entered r s).hours (i - 1) 0 ≡ hours_in i (s ∷ r.stays)
  hours_entered i a b =
      elim (ℕ_discrete (i - 1) (s.from - 1)) [
        | yes e ↦
            let same : s.from ≡ i = omega (arith, F.from_low) in
            ap (λ (p : ℕ). get_or (entered r s).hours p 0) e
            ∙ get_or-set_same r.hours (s.from - 1) _ 0 (omega (arith, K.hours_size, F.from_low, F.from_high, K.states_max))
            ∙ omega (arith, ap (λ (p : ℕ). get_or r.hours p 0) e, K.hours_are i a b, tally_first (spends i) s r.stays, spends_here i s same)
        | no ne ↦
            get_or-set_other r.hours (s.from - 1) (i - 1) _ 0 ne
            ∙ omega (arith, K.hours_are i a b, tally_first (spends i) s r.stays, spends_else i s (λ x. ne (omega (arith, x))))
      ]

  pub entered_keeps : Keeps (entered r s)
  entered_keeps =
      record {
        states_low = K.states_low;
        states_max = K.states_max;
        window_low = K.window_low;
        window_max = K.window_max;
        kept_max = omega arith;
        fine = (F, K.fine);
        counts_size = length-set r.counts _ _ ∙ K.counts_size;
        hours_size = length-set r.hours _ _ ∙ K.hours_size;
        counts_are = count_entered;
        hours_are = hours_entered;
      }

-- a record that starts
pub empty_keeps : (M W : ℕ) → 1 ≤ M → M ≤ 64 → 1 ≤ W → W ≤ 256 → Keeps (empty M W)
empty_keeps M W a b c d =
    record {
      states_low = a;
      states_max = b;
      window_low = c;
      window_max = d;
      kept_max = omega arith;
      fine = tt;
      counts_size = length-replicate {A = ℕ} 4096 0;
      hours_size = length-replicate {A = ℕ} 64 0;
      counts_are = λ i j e f g h. get_or-replicate {A = ℕ} 4096 (i * 64 + j - 65) 0 0 (omega arith) ∙ sym (tally_none (goes i j));
      hours_are = λ i e f. get_or-replicate {A = ℕ} 64 (i - 1) 0 0 (omega arith) ∙ sym (tally_none (spends i));
    }
