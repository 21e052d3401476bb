-- A file's bytes and its fields: each is had from the other.
use Rattle.std.specs.Prelude.{ℕ, zero, suc, ◌+◌, ◌*◌, ◌-◌, ◌≤◌, ◌<◌, ◌^◌, ◌≡◌, get_or, eqb, refl, List, [], ◌∷◌, ◌++◌, length, take, drop}
use Rattle.std.proofs.Common.{arith, sub-one, ◌∙◌, length-drop, take-append-drop, take-add, take_all, sym, ap, ap₂, append_assoc, append-nil, length-append}
use Rattle.definitions.specs.Sums.{firsts, pick}
use Rattle.definitions.specs.Bytes.{bytes_of}
use Rattle.definitions.specs.File.{length_field, version, state_count, highest_moment, tolerance_field, time_field, distributions, rewards_at}
use Rattle.definitions.specs.Rules.{fitting_length}
use Rattle.definitions.specs.Fields.{Fields, in_version, numbers_at, words_of, fields_of, numbers_of, headed, header_of, file_of}
use Rattle.laws.specs.ByteLaws.{big_of_bytes, big_below}
use Rattle.laws.specs.WordLaws.{part_listed, bytes_listed, bytes_of_big, length_numbers, numbers_further, words_append, length_words, words_of_numbers, numbers_of_words, below_append, bytes_below, words_below, numbers_below}

-- M rewards and M rows of M − 1 rates are M × M numbers
pub square : (n : ℕ) → 1 ≤ n → n + n * (n - 1) ≡ n * n
square zero h = absurd (omega arith)
square (suc k) h = rw sub-one (omega arith)

-- a file of bytes that is as long as its version and number of states ask for, and says so
pub record Whole (s : List ℕ) : Type 0 where
  pub bytes : (i : ℕ) → get_or s i 0 < 256
  pub states_min : 1 ≤ state_count s
  pub size : length s ≡ fitting_length s + 2
  pub counted : length_field s ≡ length s - 2

module _ (s : List ℕ) (whole : Whole s) where
  abbrev M : ℕ
  M = state_count s

  header : 13 ≤ length s
  header = omega (arith, whole.size)

  -- rewards and rates are all numbers from the rewards on
  numbers_rest : (fields_of s).rewards ++ (fields_of s).rates ≡ numbers_at s (rewards_at s) (M + M * (M - 1))
  unfolding fields_of
  numbers_rest = grind (arith, numbers_further)

  -- how many there are
  length_rest : length ((fields_of s).rewards ++ (fields_of s).rates) ≡ M * M
  length_rest = ap (length {A = ℕ}) numbers_rest ∙ length_numbers s (rewards_at s) (M + M * (M - 1)) ∙ square M whole.states_min

  -- their bytes are those from the rewards on
  pub words_rest : words_of ((fields_of s).rewards ++ (fields_of s).rates) ≡ drop (rewards_at s) s
  words_rest =
      ap words_of numbers_rest
      ∙ words_of_numbers s (rewards_at s) (M + M * (M - 1)) whole.bytes (omega (arith, whole.size, square M whole.states_min))
      ∙ take_all (4 * (M + M * (M - 1))) (drop (rewards_at s) s) (omega (arith, whole.size, square M whole.states_min, length-drop (rewards_at s) s))

  -- bytes 3 to 12: M, R, tolerance and time
  middle_bytes : (state_count s ∷ highest_moment s ∷ []) ++ (bytes_of 4 (tolerance_field s) ++ bytes_of 4 (time_field s)) ≡ take 10 (drop 3 s)
  unfolding firsts
  middle_bytes =
      rw (bytes_listed 4 5 s whole.bytes, bytes_listed 4 9 s whole.bytes) (part_listed 10 3 s (omega (arith, header)))

  -- the file with the version v and the weights w, and else with the fields of s
  module _ (v : ℕ) (w : List ℕ) where
    pub numbers_in_version : length (numbers_of (in_version v w (fields_of s))) ≡ length w + M * M
    numbers_in_version = omega (arith, length-append w ((fields_of s).rewards ++ (fields_of s).rates), length_rest)

    words_in_version : words_of (numbers_of (in_version v w (fields_of s))) ≡ words_of w ++ drop (rewards_at s) s
    words_in_version = words_append w ((fields_of s).rewards ++ (fields_of s).rates) ∙ ap (λ (l : List ℕ). words_of w ++ l) words_rest

    -- its bytes: the length, the version, bytes 3 to 12 of s, the weights, and the bytes of s from the rewards on
    pub bytes_in_version : file_of (in_version v w (fields_of s)) ≡ bytes_of 2 (4 * (length w + M * M) + 11) ++ (v ∷ []) ++ take 10 (drop 3 s) ++ words_of w ++ drop (rewards_at s) s
    unfolding headed file_of fields_of
    bytes_in_version =
        ap₂ (λ (n : ℕ) (l : List ℕ). (bytes_of 2 (4 * n + 11) ++ ((v ∷ state_count s ∷ highest_moment s ∷ []) ++ (bytes_of 4 (tolerance_field s) ++ bytes_of 4 (time_field s)))) ++ l) numbers_in_version words_in_version
        ∙ rw (← middle_bytes) (simp append_assoc)

  -- the file that holds the fields of a file is that file
  pub file_of_fields : file_of (fields_of s) ≡ s
  unfolding fields_of firsts
  file_of_fields =
      bytes_in_version (version s) (fields_of s).weights
      ∙ ap₂ (λ (a b : List ℕ). a ++ b ++ take 10 (drop 3 s) ++ words_of (fields_of s).weights ++ drop (rewards_at s) s) (ap (bytes_of 2) says ∙ bytes_of_big 2 0 s whole.bytes (omega (arith, header))) (part_listed 1 2 s (omega (arith, header)))
      ∙ ap (λ (l : List ℕ). take 2 s ++ take 1 (drop 2 s) ++ take 10 (drop 3 s) ++ l ++ drop (rewards_at s) s) (words_of_numbers s 13 (distributions s * M) whole.bytes (omega (arith, whole.size)))
      ∙ rw (← (take-add 2 1 s), ← (take-add 3 10 s), ← (take-add 13 (4 * (distributions s * M)) s)) (take-append-drop (rewards_at s) s)
    where
      says : 4 * (length (fields_of s).weights + M * M) + 11 ≡ length_field s
      says = omega (arith, length_numbers s 13 (distributions s * M), whole.size, whole.counted)

-- fields that a file can hold
pub record Fits (f : Fields) : Type 0 where
  pub version_fits : f.version < 256
  pub states_min : 1 ≤ f.states
  pub states_fit : f.states < 256
  pub highest_fits : f.highest < 256
  pub tolerance_fits : f.tolerance < 2 ^ 32
  pub time_fits : f.time < 2 ^ 32
  pub weights_count : length f.weights ≡ pick (eqb f.version 2) 1 0 * f.states
  pub rewards_count : length f.rewards ≡ f.states
  pub rates_count : length f.rates ≡ f.states * (f.states - 1)
  pub weights_fit : (i : ℕ) → get_or f.weights i 0 < 2 ^ 32
  pub rewards_fit : (i : ℕ) → get_or f.rewards i 0 < 2 ^ 32
  pub rates_fit : (i : ℕ) → get_or f.rates i 0 < 2 ^ 32
  pub length_fits : 4 * length (numbers_of f) + 11 < 2 ^ 16

-- the header's 13 bytes
abbrev front : Fields → List ℕ
front f = headed (header_of f) (length (numbers_of f))

module _ (f : Fields) where
  length_header : length (front f) ≡ 13
  unfolding headed bytes_of
  length_header = refl

  header_then_words : file_of f ≡ front f ++ words_of (numbers_of f)
  unfolding file_of
  header_then_words = refl

  -- the file in its parts
  words_in_parts : file_of f ≡ front f ++ (words_of f.weights ++ (words_of f.rewards ++ words_of f.rates))
  words_in_parts =
      header_then_words
      ∙ ap (λ (l : List ℕ). front f ++ l) (words_append f.weights (f.rewards ++ f.rates))
      ∙ ap (λ (l : List ℕ). front f ++ (words_of f.weights ++ l)) (words_append f.rewards f.rates)

  -- how long it is
  pub length_file : length (file_of f) ≡ 4 * length (numbers_of f) + 13
  length_file = omega (arith, ap (length {A = ℕ}) header_then_words, length-append (front f) (words_of (numbers_of f)), length_header, length_words (numbers_of f))

  -- the fields of one byte
  pub version_of_file : version (file_of f) ≡ f.version
  unfolding headed file_of bytes_of
  version_of_file = refl

  pub states_of_file : state_count (file_of f) ≡ f.states
  unfolding headed file_of bytes_of
  states_of_file = refl

  pub highest_of_file : highest_moment (file_of f) ≡ f.highest
  unfolding headed file_of bytes_of
  highest_of_file = refl

  distributions_of_file : distributions (file_of f) ≡ pick (eqb f.version 2) 1 0
  unfolding distributions
  distributions_of_file = rw version_of_file

  module _ (fits : Fits f) where
    length_of_file : length_field (file_of f) ≡ 4 * length (numbers_of f) + 11
    unfolding headed file_of bytes_of
    length_of_file = big_of_bytes 2 (4 * length (numbers_of f) + 11) [] _ 0 refl fits.length_fits

    tolerance_of_file : tolerance_field (file_of f) ≡ f.tolerance
    unfolding headed file_of bytes_of
    tolerance_of_file = big_of_bytes 4 f.tolerance (bytes_of 2 (4 * length (numbers_of f) + 11) ++ (f.version ∷ f.states ∷ f.highest ∷ [])) _ 5 refl fits.tolerance_fits

    time_of_file : time_field (file_of f) ≡ f.time
    unfolding headed file_of bytes_of
    time_of_file = big_of_bytes 4 f.time (bytes_of 2 (4 * length (numbers_of f) + 11) ++ ((f.version ∷ f.states ∷ f.highest ∷ []) ++ bytes_of 4 f.tolerance)) _ 9 refl fits.time_fits

    -- M weights for each distribution
    weights_held : distributions (file_of f) * state_count (file_of f) ≡ length f.weights
    weights_held = ap₂ ◌*◌ distributions_of_file states_of_file ∙ sym fits.weights_count

    weights_of_file : (fields_of (file_of f)).weights ≡ f.weights
    unfolding fields_of
    weights_of_file =
        ap₂ (λ (s : List ℕ) (n : ℕ). numbers_at s 13 n) words_in_parts weights_held
        ∙ numbers_of_words f.weights (front f) (words_of f.rewards ++ words_of f.rates) 13 length_header fits.weights_fit

    -- what stands before the rewards, and before the rates
    to_rewards : List ℕ
    to_rewards = front f ++ words_of f.weights

    length_to_rewards : length to_rewards ≡ 13 + 4 * length f.weights
    unfolding to_rewards
    length_to_rewards = omega (arith, length-append (front f) (words_of f.weights), length_header, length_words f.weights)

    at_rewards : file_of f ≡ to_rewards ++ (words_of f.rewards ++ words_of f.rates)
    unfolding to_rewards
    at_rewards = words_in_parts ∙ sym (append_assoc (front f) (words_of f.weights) (words_of f.rewards ++ words_of f.rates))

    at_rates : file_of f ≡ (to_rewards ++ words_of f.rewards) ++ (words_of f.rates ++ [])
    at_rates = at_rewards ∙ sym (append_assoc to_rewards (words_of f.rewards) (words_of f.rates)) ∙ ap (λ (l : List ℕ). (to_rewards ++ words_of f.rewards) ++ l) (sym (append-nil (words_of f.rates)))

    rewards_of_file : (fields_of (file_of f)).rewards ≡ f.rewards
    unfolding fields_of
    rewards_of_file =
        ap₂ (λ (n d : ℕ). numbers_at (file_of f) (13 + 4 * d) n) (states_of_file ∙ sym fits.rewards_count) weights_held
        ∙ ap (λ (s : List ℕ). numbers_at s (13 + 4 * length f.weights) (length f.rewards)) at_rewards
        ∙ numbers_of_words f.rewards to_rewards (words_of f.rates) (13 + 4 * length f.weights) length_to_rewards fits.rewards_fit

    rates_of_file : (fields_of (file_of f)).rates ≡ f.rates
    unfolding fields_of
    rates_of_file =
        ap (λ (k : ℕ). numbers_at (file_of f) k (state_count (file_of f) * (state_count (file_of f) - 1))) place
        ∙ ap₂ (λ (s : List ℕ) (n : ℕ). numbers_at s (13 + 4 * length f.weights + 4 * length f.rewards) n) at_rates (ap (λ (n : ℕ). n * (n - 1)) states_of_file ∙ sym fits.rates_count)
        ∙ numbers_of_words f.rates (to_rewards ++ words_of f.rewards) [] (13 + 4 * length f.weights + 4 * length f.rewards) before fits.rates_fit
      where
        before : length (to_rewards ++ words_of f.rewards) ≡ 13 + 4 * length f.weights + 4 * length f.rewards
        before = omega (arith, length-append to_rewards (words_of f.rewards), length_to_rewards, length_words f.rewards)

        place : 13 + 4 * (distributions (file_of f) * state_count (file_of f)) + 4 * state_count (file_of f) + 4 * (state_count (file_of f) - 1) * 0 ≡ 13 + 4 * length f.weights + 4 * length f.rewards
        place = omega (arith, weights_held, states_of_file, fits.rewards_count)

    -- the fields of the file that holds them are those fields
    pub fields_of_file : fields_of (file_of f) ≡ f
    unfolding fields_of
    fields_of_file =
        λ i.
        record {
          version = version_of_file i;
          states = states_of_file i;
          highest = highest_of_file i;
          tolerance = tolerance_of_file i;
          time = time_of_file i;
          weights = weights_of_file i;
          rewards = rewards_of_file i;
          rates = rates_of_file i;
        }

    single_bytes : (k : ℕ) → get_or (f.version ∷ f.states ∷ f.highest ∷ []) k 0 < 256
    single_bytes k = grind arith

    header_bytes : (k : ℕ) → get_or (front f) k 0 < 256
    unfolding headed
    header_bytes k =
        below_append 256 (bytes_of 2 (4 * length (numbers_of f) + 11)) ((f.version ∷ f.states ∷ f.highest ∷ []) ++ (bytes_of 4 f.tolerance ++ bytes_of 4 f.time)) (bytes_below 2 (4 * length (numbers_of f) + 11))
        (below_append 256 (f.version ∷ f.states ∷ f.highest ∷ []) (bytes_of 4 f.tolerance ++ bytes_of 4 f.time) single_bytes
        (below_append 256 (bytes_of 4 f.tolerance) (bytes_of 4 f.time) (bytes_below 4 f.tolerance) (bytes_below 4 f.time)))
        k

    bytes_file : (i : ℕ) → get_or (file_of f) i 0 < 256
    bytes_file i = rw header_then_words (below_append 256 (front f) (words_of (numbers_of f)) header_bytes (words_below (numbers_of f)) i)

    -- such a file is whole
    pub whole_file : Whole (file_of f)
    whole_file =
        record {
          bytes = bytes_file;
          states_min = omega (arith, states_of_file, fits.states_min);
          size = omega (arith, length_file, length-append f.weights (f.rewards ++ f.rates), length-append f.rewards f.rates, weights_held, fits.rewards_count, fits.rates_count, square f.states fits.states_min, same_square);
          counted = omega (arith, length_file, length_of_file);
        }
      where
        same_square : state_count (file_of f) * state_count (file_of f) ≡ f.states * f.states
        same_square = ap₂ ◌*◌ states_of_file states_of_file

-- the fields of a whole file fit
pub fields_fit : (s : List ℕ) → Whole s → Fits (fields_of s)
unfolding fields_of distributions
fields_fit s whole =
    let low = whole.bytes in
    record {
      version_fits = low 2;
      states_min = whole.states_min;
      states_fit = low 3;
      highest_fits = low 4;
      tolerance_fits = big_below 4 5 s low;
      time_fits = big_below 4 9 s low;
      weights_count = length_numbers s 13 (distributions s * state_count s);
      rewards_count = length_numbers s _ (state_count s);
      rates_count = length_numbers s _ (state_count s * (state_count s - 1));
      weights_fit = numbers_below s 13 (distributions s * state_count s) low;
      rewards_fit = numbers_below s _ (state_count s) low;
      rates_fit = numbers_below s _ (state_count s * (state_count s - 1)) low;
      length_fits = omega (arith, numbers_in_version s whole (version s) (fields_of s).weights, length_numbers s 13 (distributions s * state_count s), whole.size, whole.counted, big_below 2 0 s low);
    }
