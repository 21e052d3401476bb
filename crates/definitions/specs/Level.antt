-- "Level": the truncation level N of X and a tolerance ε in billionths.
use Rattle.std.specs.Prelude.{ℕ, zero, suc, ◌+◌, ◌*◌, ◌-◌, ◌/◌, ◌≤◌, Bool, true, false, ◌&&◌, leb}
use Rattle.definitions.specs.Weights.{MILLION, mode, weight, weight_sum}

-- 10^9, the unit of the tolerance
abbrev pub BILLION : ℕ
BILLION = 1000000000

-- t: 1 plus ((w(n) + n − m) × X over ((n+1) × 1,000,000 − X), down)
unfoldable pub tail_bound : ℕ → ℕ → ℕ
tail_bound X n = 1 + (weight X n + n - mode X) * X / ((n + 1) * MILLION - X)

-- S(n) × ε over 10^9, down
unfoldable pub allowance : ℕ → ℕ → ℕ → ℕ
allowance X ε n = weight_sum X n * ε / BILLION

-- n × 1,000,000 ≥ X and t ≤ S(n) × ε over 10^9
pub record Passes (X ε n : ℕ) : Type 0 where
  pub past : X ≤ n * MILLION
  pub small : tail_bound X n ≤ allowance X ε n

-- N is the least n that passes
pub record IsLevel (X ε N : ℕ) : Type 0 where
  pub passes : Passes X ε N
  pub least : (n : ℕ) → Passes X ε n → N ≤ n

-- the same test, computed
unfoldable pub passes? : ℕ → ℕ → ℕ → Bool
passes? X ε n = leb X (n * MILLION) && leb (tail_bound X n) (allowance X ε n)

-- the first of n, n + 1, …, n + tries that passes, or n + tries where none before it does
unfoldable pub first_from : ℕ → ℕ → ℕ → ℕ → ℕ
first_from X ε zero n = n
first_from X ε (suc tries) n = elim (passes? X ε n) [ true ↦ n | false ↦ first_from X ε tries (suc n) ]

-- N. That it is the least n that passes is proved in the crate laws, for every X and ε of an accepted file.
unfoldable pub level : ℕ → ℕ → ℕ
level X ε = first_from X ε 1024 0

-- 2 × m + 51: the level is at most this, whatever the tolerance (document 02, S-8)
abbrev pub last_level : ℕ → ℕ
last_level X = 2 * mode X + 51
