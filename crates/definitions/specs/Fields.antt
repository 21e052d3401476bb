-- A model file's fields as a record, read from its bytes, and the file that holds given fields.
use Rattle.std.specs.Prelude.{ℕ, ◌+◌, ◌*◌, ◌-◌, List, [], ◌∷◌, ◌++◌, length}
use Rattle.definitions.specs.declared.Header.{Header}
use Rattle.definitions.specs.Sums.{firsts}
use Rattle.definitions.specs.Bytes.{big, bytes_of}
use Rattle.definitions.specs.File.{version, state_count, highest_moment, tolerance_field, time_field, distributions, weights_at, rewards_at, row_at}

-- version, M, R, ε, T, and the starting weights, reward rates and transition rates in the order of the file
pub record Fields : Type 0 where
  pub version : ℕ
  pub states : ℕ
  pub highest : ℕ
  pub tolerance : ℕ
  pub time : ℕ
  pub weights : List ℕ
  pub rewards : List ℕ
  pub rates : List ℕ

-- the fields f in version v, with the weights w
abbrev pub in_version : ℕ → List ℕ → Fields → Fields
in_version v w f =
    record {
      version = v;
      states = f.states;
      highest = f.highest;
      tolerance = f.tolerance;
      time = f.time;
      weights = w;
      rewards = f.rewards;
      rates = f.rates;
    }

-- so many numbers of 4 bytes each, from the place at on
unfoldable pub numbers_at : List ℕ → ℕ → ℕ → List ℕ
numbers_at s at n = firsts n (λ k. big 4 s (at + 4 * k))

-- the bytes of a list of numbers, 4 each
unfoldable pub words_of : List ℕ → List ℕ
words_of [] = []
words_of (x ∷ later) = bytes_of 4 x ++ words_of later

-- the fields that a file's bytes state
unfoldable pub fields_of : List ℕ → Fields
fields_of s =
    record {
      version = version s;
      states = state_count s;
      highest = highest_moment s;
      tolerance = tolerance_field s;
      time = time_field s;
      weights = numbers_at s weights_at (distributions s * state_count s);
      rewards = numbers_at s (rewards_at s) (state_count s);
      rates = numbers_at s (row_at s 0) (state_count s * (state_count s - 1));
    }

-- weights, reward rates and transition rates, one after the other
abbrev pub numbers_of : Fields → List ℕ
numbers_of f = f.weights ++ (f.rewards ++ f.rates)

-- a header, where so many numbers follow: the length of all that stands after its own two bytes, version, M, R, ε and T
unfoldable pub headed : Header → ℕ → List ℕ
headed h count = bytes_of 2 (4 * count + 11) ++ ((h.version ∷ h.states ∷ h.highest ∷ []) ++ (bytes_of 4 h.tolerance ++ bytes_of 4 h.time))

abbrev pub header_of : Fields → Header
header_of f = record { version = f.version; states = f.states; highest = f.highest; tolerance = f.tolerance; time = f.time }

-- the file that holds the fields: 13 bytes of header, and the numbers
unfoldable pub file_of : Fields → List ℕ
file_of f = headed (header_of f) (length (numbers_of f)) ++ words_of (numbers_of f)
