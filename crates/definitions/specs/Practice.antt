-- Document 02, S-6: a practice file dealt from M, R and a seed number.
use Rattle.std.specs.Prelude.{ℕ, zero, suc, ◌+◌, ◌*◌, ◌-◌, ◌/◌, ◌%◌, ◌^◌, ◌≤◌, ◌≡◌, List, [], ◌∷◌}
use Rattle.definitions.specs.Sums.{firsts}
use Rattle.definitions.specs.Chain.{model_of}
use Rattle.definitions.specs.Rules.{Answer, accepted, refused, dimensions, file_judgement}
use Rattle.definitions.specs.Moment.{run_of, outcome}
use Rattle.definitions.specs.Fields.{Fields, fields_of, file_of}
use Rattle.definitions.specs.Written.{file_for}

-- next = previous × 1664525 + 1013904223, cut to 32 bits
unfoldable pub next : ℕ → ℕ
next previous = (previous * 1664525 + 1013904223) % 2 ^ 32

-- the stream after so many steps. The seed number is the first "previous".
unfoldable pub stream : ℕ → ℕ → ℕ
stream seed zero = seed
stream seed (suc k) = next (stream seed k)

-- the upper 16 bits of a number of 32
unfoldable pub upper : ℕ → ℕ
upper x = x / 2 ^ 16

-- draw k, counted from 0: the upper 16 bits after one step more
unfoldable pub draw : ℕ → ℕ → ℕ
draw seed k = upper (stream seed (suc k))

-- the fields dealt: tolerance 10,000, time 1 plus the first draw over 4,096 (down), then each reward and each rate in file order as one draw, the
-- first reward plus 1
unfoldable pub practice_fields : ℕ → ℕ → ℕ → Fields
practice_fields M R seed =
    record {
      version = 1;
      states = M;
      highest = R;
      tolerance = 10000;
      time = 1 + draw seed 0 / 4096;
      weights = [];
      rewards = (draw seed 1 + 1) ∷ firsts (M - 1) (λ i. draw seed (2 + i));
      rates = firsts (M * (M - 1)) (λ k. draw seed (1 + M + k));
    }

-- the practice file
unfoldable pub practice_file : ℕ → ℕ → ℕ → List ℕ
practice_file M R seed = file_of (practice_fields M R seed)

-- what a call answers that deals it, lent with a number of bytes: rows 4 and 5, then 13
unfoldable pub practice : ℕ → ℕ → ℕ → ℕ → Answer (List ℕ)
practice M R seed lent = file_for (dimensions M R) (practice_file M R seed) lent

-- the file t is good to practise on: it states the fields dealt, rows 1 to 12 and 16 accept it at its own time, for every call that admits version
-- 1, and with M × R cells or more it has a level and figures
pub record Dealt (M R seed : ℕ) (t : List ℕ) : Type 0 where
  pub states_fields : fields_of t ≡ practice_fields M R seed
  pub accepts : (newest : ℕ) → 1 ≤ newest → file_judgement 1 newest t ≡ accepted tt
  pub has_figures : (cells : ℕ) → M * R ≤ cells → outcome t cells ≡ accepted (run_of (model_of t))

-- "every file made is accepted by the reader": of an answer, for the file that was dealt
abbrev pub DealtWell : Answer (List ℕ) → ℕ → ℕ → ℕ → Type 0
DealtWell (accepted t) M R seed = Dealt M R seed t
DealtWell (refused k) M R seed = Unit {0}
