-- A file with another version and other starting weights, and else the fields of a file: its model, rows, level and moments.
use Rattle.std.specs.Prelude.{ℕ, ◌+◌, ◌*◌, ◌-◌, ◌≤◌, ◌<◌, ◌^◌, ◌≡◌, false, List, [], ◌++◌, length, get_or, drop, eqb}
use Rattle.std.proofs.Common.{arith, sym, ◌∙◌, mul-le-mul, ap, subst}
use Rattle.definitions.specs.Sums.{pick}
use Rattle.definitions.specs.Bytes.{big}
use Rattle.definitions.specs.File.{state_count, highest_moment, tolerance_field, time_field, distributions, weight_field, rewards_at, reward_field, row_at, place, rate_field}
use Rattle.definitions.specs.Chain.{Model, model_of, jump_rate, row_sum, uniform_rate, c, max_reward, jump_millionths}
use Rattle.definitions.specs.Rules.{dimensions, framing, quantities, misweighted, jumps, file_rows}
use Rattle.definitions.specs.Moment.{moment, model_level}
use Rattle.definitions.specs.Fields.{Fields, in_version, words_of, fields_of, file_of}
use Rattle.laws.specs.ByteLaws.{big_drop}
use Rattle.laws.specs.RuleLaws.{NoneHold, none_in_parts, none_together}
use Rattle.laws.specs.FileLaws.{tolerance_held, time_held, framing_passes, weight_held}
use Rattle.laws.specs.FieldLaws.{Whole, words_rest, numbers_in_version, Fits, version_of_file, states_of_file, highest_of_file, fields_of_file, whole_file, fields_fit}

-- two lists that are alike from a place of each on hold the same numbers from there on
shifted : (width a b k : ℕ) (l x : List ℕ) → drop a l ≡ drop b x → big width l (a + k) ≡ big width x (b + k)
shifted width a b k l x e = sym (big_drop width a l k) ∙ ap (λ (y : List ℕ). big width y k) e ∙ big_drop width b x k

-- the model m with so many starting distributions, and the weights a
abbrev pub starting_with : Model → ℕ → (ℕ → ℕ) → Model
starting_with m d a =
    record {
      states = m.states;
      highest = m.highest;
      tolerance = m.tolerance;
      time = m.time;
      distributions = d;
      start = a;
      reward = m.reward;
      transition = m.transition;
    }

-- what is told of the file t, which has version v and the weights w, and else the fields of s
pub record Carried (s t : List ℕ) (v : ℕ) (w : List ℕ) : Type 0 where
  pub fields : fields_of t ≡ in_version v w (fields_of s)
  pub states : state_count t ≡ state_count s
  pub distributed : distributions t ≡ pick (eqb v 2) 1 0
  -- its model is that of s but for the starting distribution, at every index
  pub model : model_of t ≡ starting_with (model_of s) (distributions t) (weight_field t)
  -- the weights that it holds are w
  pub weights : (i : ℕ) → i < distributions t * state_count t → weight_field t i ≡ get_or w i 0
  -- rows 1 to 12 and 16 pass where they pass for s, version v is admitted, and the weights pass row 16
  pub rows : (a b oldest newest : ℕ) → oldest ≤ v → v ≤ newest → misweighted (model_of t) ≡ false → NoneHold (file_rows a b s) → NoneHold (file_rows oldest newest t)
  pub level : model_level (model_of t) ≡ model_level (model_of s)
  pub moments : (N r i : ℕ) → moment (model_of t) N r i ≡ moment (model_of s) N r i

module _ (s : List ℕ) (whole : Whole s) (v : ℕ) (w : List ℕ) where
  abbrev f : Fields
  f = in_version v w (fields_of s)

  -- where the weights fit, and are as many as version v asks for, a file can hold the fields
  pub in_version_fits : state_count s ≤ 64 → v < 256 → length w ≡ pick (eqb v 2) 1 0 * state_count s → length w ≤ state_count s → ((i : ℕ) → get_or w i 0 < 2 ^ 32) → Fits f
  in_version_fits few small counted short inside =
      let own = fields_fit s whole in
      record {
        version_fits = small;
        states_min = own.states_min;
        states_fit = own.states_fit;
        highest_fits = own.highest_fits;
        tolerance_fits = own.tolerance_fits;
        time_fits = own.time_fits;
        weights_count = unfold fields_of in counted;
        rewards_count = own.rewards_count;
        rates_count = own.rates_count;
        weights_fit = inside;
        rewards_fit = own.rewards_fit;
        rates_fit = own.rates_fit;
        length_fits = omega (arith, numbers_in_version s whole v w, short, few, mul-le-mul few few);
      }

  module _ (fits : Fits f) where
    abbrev t : List ℕ
    t = file_of f

    fields_same : fields_of t ≡ f
    fields_same = fields_of_file f fits

    -- from the rewards on it has the bytes of s
    rest_same : drop (rewards_at t) t ≡ drop (rewards_at s) s
    rest_same =
        sym (words_rest t (whole_file f fits))
        ∙ ap (λ (x : Fields). words_of (x.rewards ++ x.rates)) fields_same
        ∙ words_rest s whole

    states_same : state_count t ≡ state_count s
    unfolding fields_of
    states_same = states_of_file f

    highest_same : highest_moment t ≡ highest_moment s
    unfolding fields_of
    highest_same = highest_of_file f

    tolerance_same : tolerance_field t ≡ tolerance_field s
    unfolding fields_of
    tolerance_same = tolerance_held f fits

    time_same : time_field t ≡ time_field s
    unfolding fields_of
    time_same = time_held f fits

    reward_same : (i : ℕ) → reward_field t i ≡ reward_field s i
    reward_same i = shifted 4 (rewards_at t) (rewards_at s) (4 * i) t s rest_same

    rate_same : (i j : ℕ) → rate_field t i j ≡ rate_field s i j
    rate_same i j =
        ap (big 4 t) (there t)
        ∙ shifted 4 (rewards_at t) (rewards_at s) (4 * state_count t + 4 * (state_count t - 1) * i + 4 * place i j) t s rest_same
        ∙ ap (λ (m : ℕ). big 4 s (rewards_at s + (4 * m + 4 * (m - 1) * i + 4 * place i j))) states_same
        ∙ ap (big 4 s) (sym (there s))
      where
        there : (x : List ℕ) → row_at x i + 4 * place i j ≡ rewards_at x + (4 * state_count x + 4 * (state_count x - 1) * i + 4 * place i j)
        there x = omega arith

    model_same : model_of t ≡ starting_with (model_of s) (distributions t) (weight_field t)
    model_same =
        λ i.
        record {
          states = states_same i;
          highest = highest_same i;
          tolerance = tolerance_same i;
          time = time_same i;
          distributions = distributions t;
          start = weight_field t;
          reward = λ k. reward_same k i;
          transition = λ j k. rate_same j k i;
        }

    distributions_are : distributions t ≡ pick (eqb v 2) 1 0
    unfolding distributions
    distributions_are = rw (version_of_file f)

    -- rows 4 and 5 are those of s
    dimensions_pass : (a b : ℕ) → NoneHold (framing a b s) → NoneHold (dimensions f.states f.highest)
    unfolding framing fields_of
    dimensions_pass a b row = (row.1.1.1.0, (row.1.1.1.1.0, tt))

    -- rows 7, 8, 16 and 9 to 11
    quantities_pass : misweighted (model_of t) ≡ false → NoneHold (quantities (model_of s) []) → NoneHold (quantities (model_of t) [])
    unfolding quantities jump_rate row_sum
    quantities_pass weighed row = subst (λ (m : Model). NoneHold (quantities m [])) (sym model_same) (row.0, (row.1.0, (subst (λ (m : Model). misweighted m ≡ false) model_same weighed, row.1.1.1)))

    -- row 12
    jumps_pass : NoneHold (jumps (uniform_rate (model_of s)) (time_field s)) → NoneHold (jumps (uniform_rate (model_of t)) (time_field t))
    unfolding jump_rate row_sum uniform_rate
    jumps_pass row = subst (λ (m : Model). NoneHold (jumps (uniform_rate m) m.time)) (sym model_same) row

    rows_pass : (a b oldest newest : ℕ) → oldest ≤ v → v ≤ newest → misweighted (model_of t) ≡ false → NoneHold (file_rows a b s) → NoneHold (file_rows oldest newest t)
    rows_pass a b oldest newest old new weighed none =
        let to12 = none_in_parts (framing a b s ++ quantities (model_of s) []) (jumps (uniform_rate (model_of s)) (time_field s)) none in
        let to11 = none_in_parts (framing a b s) (quantities (model_of s) []) to12.0 in
        none_together (framing oldest newest t ++ quantities (model_of t) []) (jumps (uniform_rate (model_of t)) (time_field t))
        (none_together (framing oldest newest t) (quantities (model_of t) []) (framing_passes f fits oldest newest old new (dimensions_pass a b to11.0)) (quantities_pass weighed to11.1))
        (jumps_pass to12.1)

    -- a starting distribution has no part in the level and the moments
    level_same : model_level (model_of t) ≡ model_level (model_of s)
    unfolding model_level jump_millionths jump_rate row_sum uniform_rate
    level_same = ap model_level model_same

    moments_same : (N r i : ℕ) → moment (model_of t) N r i ≡ moment (model_of s) N r i
    unfolding moment jump_millionths jump_rate row_sum uniform_rate c max_reward
    moments_same N r i = ap (λ (m : Model). moment m N r i) model_same

    pub carried : Carried s t v w
    carried =
        record {
          fields = fields_same;
          states = states_same;
          distributed = distributions_are;
          model = model_same;
          weights = weight_held f fits;
          rows = rows_pass;
          level = level_same;
          moments = moments_same;
        }
