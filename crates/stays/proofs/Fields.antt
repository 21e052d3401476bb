-- The fields of a record after each step, and what they say then. Assumes nothing.
use Rattle.std.proofs.Common.{◌≡◌, ℕ, ◌+◌, ◌*◌, ◌-◌, ◌≤◌, ◌<◌, List, ◌∷◌, refl, sym, ap, ap₂, ◌∙◌, subst, length, get_or, set, take, replicate, length-set, arith}
use Rattle.definitions.specs.Stays.{Stay}
use Rattle.laws.specs.StayLaws.{Fine}
use Rattle.stays.specs.declared.Kept.{Kept}
use Rattle.stays.specs.declared.Record.TheInside.{Inside}
use Rattle.stays.specs.Latest.{Latest, Keeps, empty, oldest, left, entered}
use Rattle.stays.specs.Ring.{place_of, following, stay_in, nothing, ring_from}
use Rattle.stays.specs.Inner.{latest_in, Sound}
use Rattle.stays.specs.LatestLaws.{oldest_fine, counted, spent, left_keeps, entered_keeps, empty_keeps}
use Rattle.stays.specs.RingLaws.{place_oldest, following_max, ring_entered, length_ring, ring_newest, ring_at}

-- as many stays as are kept
pub stays_length : (a : Inside) → length (latest_in a).stays ≡ a.kept
stays_length a = length_ring a.window a.next a.places 0 a.kept

-- a record that starts
abbrev pub empty_in : ℕ → ℕ → List Kept → Inside
empty_in M W places =
    record {
      states = M;
      window = W;
      next = 0;
      kept = 0;
      places = places;
      counts = replicate 4096 0;
      hours = replicate 64 0;
    }

pub empty_latest : (M W : ℕ) (places : List Kept) → latest_in (empty_in M W places) ≡ empty M W
unfolding ring_from
empty_latest M W places = refl

pub empty_sound : (M W : ℕ) (places : List Kept) → length places ≡ 256 → 1 ≤ M → M ≤ 64 → 1 ≤ W → W ≤ 256 → Sound (empty_in M W places)
empty_sound M W places size a b c d =
    record {
      keeps = subst Keeps (sym (empty_latest M W places)) (empty_keeps M W a b c d);
      next_max = omega arith;
      places_size = size;
    }

-- a full window, by what a caller sees
pub is_full : (a : Inside) (now : Latest) → latest_in a ≡ now → length now.stays ≡ now.window → a.kept ≡ a.window
is_full a now e full = omega (arith, stays_length a, ap (λ (r : Latest). length r.stays) e, ap (λ (r : Latest). r.window) e)

pub full_seen : (a : Inside) (now : Latest) → latest_in a ≡ now → a.kept ≡ a.window → length now.stays ≡ now.window
full_seen a now e full = omega (arith, stays_length a, ap (λ (r : Latest). length r.stays) e, ap (λ (r : Latest). r.window) e)

pub other_seen : (a : Inside) (now : Latest) → latest_in a ≡ now → (a.kept ≡ a.window → ⊥) → length now.stays ≡ now.window → ⊥
other_seen a now e other full = other (is_full a now e full)

-- where the next stay goes stands the oldest of a full window
module _ (a : Inside) (S : Sound a) (full : a.kept ≡ a.window) where
  pub oldest_here : stay_in (get_or a.places a.next nothing) ≡ oldest (latest_in a)
  oldest_here =
      let last : 0 + (a.window - 1) ≡ a.window - 1 = omega arith in
      sym
      (ring_at a.window a.next a.places 0 a.kept (a.window - 1) (omega (arith, S.keeps.window_low))
      ∙ ap (λ (p : ℕ). stay_in (get_or a.places p nothing)) (ap (place_of a.window a.next) last ∙ place_oldest a.window a.next S.next_max))

  pub full_stays : length (latest_in a).stays ≡ a.window
  full_stays = stays_length a ∙ full

  -- the oldest leaves
  module _ (i at span : ℕ) (is_i : i ≡ (oldest (latest_in a)).from) (is_at : at ≡ (oldest (latest_in a)).from * 64 + (oldest (latest_in a)).to - 65) (is_span : span ≡ (oldest (latest_in a)).hours) where
    abbrev pub left_in : Inside
    left_in =
        record {
          states = a.states;
          window = a.window;
          next = a.next;
          kept = a.kept - 1;
          places = a.places;
          counts = set a.counts at (get_or a.counts at 0 - 1);
          hours = set a.hours (i - 1) (get_or a.hours (i - 1) 0 - span);
        }

    pub left_latest : latest_in left_in ≡ left (latest_in a)
    left_latest =
        let stays : ring_from a.window a.next a.places 0 (a.kept - 1) ≡ take (a.window - 1) (ring_from a.window a.next a.places 0 a.kept)
        = ring_newest a.window a.next a.places 0 a.kept (a.kept - 1) (omega arith) ∙ ap (λ (n : ℕ). take (n - 1) (ring_from a.window a.next a.places 0 a.kept)) full in
        let counts = ap (λ (x : ℕ). set a.counts x (get_or a.counts x 0 - 1)) is_at in
        let hours = ap₂ (λ (x y : ℕ). set a.hours (x - 1) (get_or a.hours (x - 1) 0 - y)) is_i is_span in
        cc

    pub left_sound : Sound left_in
    left_sound = record { keeps = subst Keeps (sym left_latest) (left_keeps (latest_in a) S.keeps full_stays); next_max = S.next_max; places_size = S.places_size }

-- what is read of the oldest: its states are from 1 to 64, and its count and hours are in the tallies
pub record Read (s : Stay) (counts hours : List ℕ) (i j : ℕ) : Type 0 where
  pub is_i : i ≡ s.from
  pub is_j : j ≡ s.to
  pub i_low : 1 ≤ i
  pub i_high : i ≤ 64
  pub j_low : 1 ≤ j
  pub j_high : j ≤ 64
  pub counted_in : 1 ≤ get_or counts (i * 64 + j - 65) 0
  pub spent_in : s.hours ≤ get_or hours (i - 1) 0

pub read_oldest : (a : Inside) → Sound a → a.kept ≡ a.window → (i j : ℕ) → i ≡ (get_or a.places a.next nothing).from → j ≡ (get_or a.places a.next nothing).to → Read (oldest (latest_in a)) a.counts a.hours i j
read_oldest a S full i j p q =
    let r = latest_in a in
    let here = oldest_here a S full in
    let all = full_stays a S full in
    let F = oldest_fine r S.keeps all in
    let is_i : i ≡ (oldest r).from = p ∙ ap (λ (s : Stay). s.from) here in
    let is_j : j ≡ (oldest r).to = q ∙ ap (λ (s : Stay). s.to) here in
    record {
      is_i = is_i;
      is_j = is_j;
      i_low = omega (arith, F.from_low);
      i_high = omega (arith, F.from_high, S.keeps.states_max);
      j_low = omega (arith, F.to_low);
      j_high = omega (arith, F.to_high, S.keeps.states_max);
      counted_in = rw (is_i, is_j) (counted r S.keeps all);
      spent_in = rw is_i (spent r S.keeps all);
    }

-- a stay enters
module _ (a : Inside) (S : Sound a) (room : a.kept < a.window) (k : Kept) (F : Fine a.states (stay_in k)) where
  module _ (next i at span : ℕ) (is_next : next ≡ following a.window a.next) (is_i : i ≡ k.from) (is_at : at ≡ k.from * 64 + k.to - 65) (is_span : span ≡ k.span) where
    abbrev pub entered_in : Inside
    entered_in =
        record {
          states = a.states;
          window = a.window;
          next = next;
          kept = a.kept + 1;
          places = set a.places a.next k;
          counts = set a.counts at (get_or a.counts at 0 + 1);
          hours = set a.hours (i - 1) (get_or a.hours (i - 1) 0 + span);
        }

    pub entered_latest : latest_in entered_in ≡ entered (latest_in a) (stay_in k)
    entered_latest =
        let stays : ring_from a.window next (set a.places a.next k) 0 (a.kept + 1) ≡ stay_in k ∷ ring_from a.window a.next a.places 0 a.kept
        = ap (λ (n : ℕ). ring_from a.window n (set a.places a.next k) 0 (a.kept + 1)) is_next ∙ ring_entered a.window a.next S.next_max k a.places a.kept (omega (arith, S.places_size, S.keeps.window_max)) room in
        let counts = ap (λ (x : ℕ). set a.counts x (get_or a.counts x 0 + 1)) is_at in
        let hours = ap₂ (λ (x y : ℕ). set a.hours (x - 1) (get_or a.hours (x - 1) 0 + y)) is_i is_span in
        cc

    pub entered_sound : Sound entered_in
    entered_sound =
        record {
          keeps = subst Keeps (sym entered_latest) (entered_keeps (latest_in a) S.keeps (omega (arith, stays_length a)) (stay_in k) F);
          next_max = omega (arith, following_max a.window a.next S.next_max);
          places_size = length-set a.places _ _ ∙ S.places_size;
        }
