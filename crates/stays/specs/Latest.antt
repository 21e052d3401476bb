-- A record of stays as its callers see it: the last stays accepted, with their tally.
use Rattle.std.specs.Prelude.{ℕ, ◌+◌, ◌*◌, ◌-◌, ◌≤◌, List, [], ◌∷◌, ◌≡◌, length, get_or, set, take, replicate, eqb}
use Rattle.definitions.specs.Sums.{pick}
use Rattle.definitions.specs.Rules.{judged_by}
use Rattle.definitions.specs.Stays.{Stay, start_rows, stay_answer, by_answer, count_in, hours_in}
use Rattle.laws.specs.StayLaws.{AllFine, no_stay}

-- M and the window size; the stays, the newest first; the count of i to j at i × 64 + j − 65, and the hours in i at i − 1
pub record Latest : Type 0 where
  pub states : ℕ
  pub window : ℕ
  pub stays : List Stay
  pub counts : List ℕ
  pub hours : List ℕ

-- the stays are accepted ones, at most as many as the window has, and the counts and hours are their tally
pub record Keeps (r : Latest) : Type 0 where
  pub states_low : 1 ≤ r.states
  pub states_max : r.states ≤ 64
  pub window_low : 1 ≤ r.window
  pub window_max : r.window ≤ 256
  pub kept_max : length r.stays ≤ r.window
  pub fine : AllFine r.states r.stays
  pub counts_size : length r.counts ≡ 4096
  pub hours_size : length r.hours ≡ 64
  pub counts_are : (i j : ℕ) → 1 ≤ i → i ≤ 64 → 1 ≤ j → j ≤ 64 → get_or r.counts (i * 64 + j - 65) 0 ≡ count_in i j r.stays
  pub hours_are : (i : ℕ) → 1 ≤ i → i ≤ 64 → get_or r.hours (i - 1) 0 ≡ hours_in i r.stays

-- a record that no stay was offered to
abbrev pub empty : ℕ → ℕ → Latest
empty M W =
    record {
      states = M;
      window = W;
      stays = [];
      counts = replicate 4096 0;
      hours = replicate 64 0;
    }

-- the oldest stay leaves a full window
abbrev pub oldest : Latest → Stay
oldest r = get_or r.stays (r.window - 1) no_stay

abbrev pub left : Latest → Latest
left r =
    let s = oldest r in
    let place = s.from * 64 + s.to - 65 in
    record {
      states = r.states;
      window = r.window;
      stays = take (r.window - 1) r.stays;
      counts = set r.counts place (get_or r.counts place 0 - 1);
      hours = set r.hours (s.from - 1) (get_or r.hours (s.from - 1) 0 - s.hours);
    }

-- a stay enters a window that has room
abbrev pub entered : Latest → Stay → Latest
entered r s =
    let place = s.from * 64 + s.to - 65 in
    record {
      states = r.states;
      window = r.window;
      stays = s ∷ r.stays;
      counts = set r.counts place (get_or r.counts place 0 + 1);
      hours = set r.hours (s.from - 1) (get_or r.hours (s.from - 1) 0 + s.hours);
    }

-- an accepted stay: the oldest leaves only as it enters a full window
unfoldable pub pushed : Latest → Stay → Latest
pushed r s = entered (pick (eqb (length r.stays) r.window) (left r) r) s

-- a stay, taken or refused
unfoldable pub stayed : Latest → Stay → Latest
stayed r s = by_answer (stay_answer r.states s) (pushed r s) r

-- a start. A refused one gives the record of one state and a window of one, which takes no stay.
unfoldable pub started : ℕ → ℕ → Latest
started M W = by_answer (judged_by (start_rows M W)) (empty M W) (empty 1 1)

-- the record "that comes from a start through stays, taken or refused": offered to it, the newest first
unfoldable pub reached_by : ℕ → ℕ → List Stay → Latest
reached_by M W [] = started M W
reached_by M W (s ∷ earlier) = stayed (reached_by M W earlier) s
