-- A file that holds given fields: the rows of its framing, and its weights, reward rates and transition rates one by one.
use Rattle.std.specs.Prelude.{ℕ, ◌+◌, ◌*◌, ◌-◌, ◌≤◌, ◌<◌, ◌≡◌, List, length, get_or}
use Rattle.std.proofs.Common.{arith, ◌∙◌, le-ltb, sym, ap}
use Rattle.definitions.specs.Bytes.{big}
use Rattle.definitions.specs.File.{length_field, state_count, tolerance_field, time_field, distributions, weight_field, rewards_at, reward_field, place, rate_field}
use Rattle.definitions.specs.Rules.{fitting_length, dimensions, framing}
use Rattle.definitions.specs.Fields.{Fields, numbers_at, fields_of, file_of}
use Rattle.laws.specs.ListLaws.{get_d_firsts}
use Rattle.laws.specs.RuleLaws.{NoneHold, agree}
use Rattle.laws.specs.RowLaws.{is_inside}
use Rattle.laws.specs.FieldLaws.{Fits, version_of_file, states_of_file, highest_of_file, fields_of_file, whole_file}

-- the place of another state in a row of M − 1 rates
pub place_max : (i j M : ℕ) → i < M → j < M → (j ≡ i → ⊥) → place i j < M - 1
place_max i j M li lj ne = grind arith

-- number k of a list of numbers that a file holds
number_at : (s : List ℕ) (at n k : ℕ) → k < n → get_or (numbers_at s at n) k 0 ≡ big 4 s (at + 4 * k)
unfolding numbers_at
number_at s at n k l = get_d_firsts 0 n (λ j. big 4 s (at + 4 * j)) k l

-- the rate from i to another state j among the rates that a file states
pub rate_stated : (s : List ℕ) (i j : ℕ) → i < state_count s → j < state_count s → (j ≡ i → ⊥) → rate_field s i j ≡ get_or (fields_of s).rates (i * (state_count s - 1) + place i j) 0
unfolding fields_of
rate_stated s i j li lj ne = grind (arith, number_at)

module _ (f : Fields) (fits : Fits f) where
  abbrev t : List ℕ
  t = file_of f

  fields_same : fields_of t ≡ f
  fields_same = fields_of_file f fits

  pub tolerance_held : tolerance_field t ≡ f.tolerance
  unfolding fields_of
  tolerance_held = ap (λ (x : Fields). x.tolerance) fields_same

  pub time_held : time_field t ≡ f.time
  unfolding fields_of
  time_held = ap (λ (x : Fields). x.time) fields_same

  -- rows 1 to 6 pass where the version is admitted, and M and R pass
  pub framing_passes : (low high : ℕ) → low ≤ f.version → f.version ≤ high → NoneHold (dimensions f.states f.highest) → NoneHold (framing low high t)
  unfolding framing
  framing_passes low high old new row =
      let whole = whole_file f fits in
      (le-ltb (length t) 13 (omega (arith, whole.size)), (agree (length_field t) (length t - 2) whole.counted, (rw (version_of_file f) (is_inside low high f.version old new), (rw (states_of_file f) row.0, (rw (highest_of_file f) row.1.0, (agree (length_field t) (fitting_length t) (omega (arith, whole.size, whole.counted)), tt))))))

  pub weight_held : (i : ℕ) → i < distributions t * state_count t → weight_field t i ≡ get_or f.weights i 0
  unfolding fields_of
  weight_held i l = sym (number_at t 13 (distributions t * state_count t) i l) ∙ ap (λ (x : Fields). get_or x.weights i 0) fields_same

  pub reward_held : (i : ℕ) → i < f.states → reward_field t i ≡ get_or f.rewards i 0
  unfolding fields_of
  reward_held i l = sym (number_at t (rewards_at t) (state_count t) i (rw (states_of_file f) l)) ∙ ap (λ (x : Fields). get_or x.rewards i 0) fields_same

  pub rate_held : (i j : ℕ) → i < f.states → j < f.states → (j ≡ i → ⊥) → rate_field t i j ≡ get_or f.rates (i * (f.states - 1) + place i j) 0
  rate_held i j li lj ne =
      rate_stated t i j (rw (states_of_file f) li) (rw (states_of_file f) lj) ne
      ∙ ap (λ (M : ℕ). get_or (fields_of t).rates (i * (M - 1) + place i j) 0) (states_of_file f)
      ∙ ap (λ (x : Fields). get_or x.rates (i * (f.states - 1) + place i j) 0) fields_same
