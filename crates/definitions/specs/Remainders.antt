-- Document 02, S-4, "Hand back what a division leaves": the remainders of V, W and U for one state, n and r, and what a call answers that gives them.
use Rattle.std.specs.Prelude.{ℕ, ◌+◌, ◌-◌, ◌%◌, List, Bool, ◌||◌, Option, None, Some}
use Rattle.definitions.specs.declared.Rests.{Rests}
use Rattle.definitions.specs.Sums.{pick}
use Rattle.definitions.specs.Division.{Divides}
use Rattle.definitions.specs.Chain.{Model, model_of, Chain, chain_of}
use Rattle.definitions.specs.Rules.{Answer, accepted, refused, outside, file_rows, first_held}
use Rattle.definitions.specs.Vectors.{row_total, row_mean, reward_product, reward_share, mixed, U}
use Rattle.definitions.specs.Moment.{model_level}

-- V of U(n,r) at i, the row mean of U(n−1,r), and its dividend, by E
abbrev pub mean_of : Chain → ℕ → ℕ → ℕ → ℕ
mean_of ch n r i = row_mean ch (U ch (n - 1) r) i

abbrev pub mean_dividend : Chain → ℕ → ℕ → ℕ → ℕ
mean_dividend ch n r i = row_total ch (U ch (n - 1) r) i

-- W of U(n,r) at i, the reward share of U(n,r−1), and its dividend, by F
abbrev pub share_of : Chain → ℕ → ℕ → ℕ → ℕ
share_of ch n r i = reward_share ch (U ch n (r - 1) i) i

abbrev pub share_dividend : Chain → ℕ → ℕ → ℕ → ℕ
share_dividend ch n r i = reward_product ch (U ch n (r - 1) i) i

-- the dividend of U(n,r) at i, by n + r: n × V + r × W
abbrev pub mix_dividend : Chain → ℕ → ℕ → ℕ → ℕ
mix_dividend ch n r i = mixed n r (mean_of ch n r i) (share_of ch n r i)

-- what the three divisions of a step leave, from before and same
abbrev pub rests_in : Chain → ℕ → ℕ → (ℕ → ℕ) → (ℕ → ℕ) → ℕ → Rests
rests_in ch n r before same i =
    record {
      mean = row_total ch before i % ch.rate;
      share = reward_product ch (same i) i % ch.largest_reward;
      mix = mixed n r (row_mean ch before i) (reward_share ch (same i) i) % (n + r);
    }

-- what those of U(n,r) at i leave
unfoldable pub rests_at : Chain → ℕ → ℕ → ℕ → Rests
rests_at ch n r i = rests_in ch n r (U ch (n - 1) r) (U ch n (r - 1)) i

-- the state, counted from 1, is outside 1 to M, n outside 1 to N or r outside 1 to R
abbrev pub any_outside : Model → ℕ → ℕ → ℕ → Bool
any_outside m state n r = outside 1 m.states state || outside 1 (model_level m) n || outside 1 m.highest r

-- what a model gives: none where one of them is outside
unfoldable pub rests_of : Model → ℕ → ℕ → ℕ → Option Rests
rests_of m state n r = pick (any_outside m state n r) None (Some (rests_at (chain_of m) n r (state - 1)))

-- what a call answers of the file s, of either version: the first of rows 1 to 12 and 16 that holds, before all else
unfoldable pub remainders_of : List ℕ → ℕ → ℕ → ℕ → Answer (Option Rests)
remainders_of s state n r = first_held (file_rows 1 2 s) (rests_of (model_of s) state n r)

-- a number that is lent for one of the remainders: what it holds after a call, from what it held before. It is written where they are given, and stays else.
abbrev pub number_after : Answer (Option Rests) → (Rests → ℕ) → ℕ → ℕ
number_after (accepted (Some x)) which before = which x
number_after (accepted None) which before = before
number_after (refused k) which before = before

-- the three divisions of a step at i, from before, which is U(n−1,r), and same, which is U(n,r−1), to the entry u, and what they leave: V by E, W by F, and U by
-- n + r
pub record StepDivides (ch : Chain) (n r : ℕ) (before same : ℕ → ℕ) (i u : ℕ) (x : Rests) : Type 0 where
  pub mean : Divides (row_total ch before i) ch.rate (row_mean ch before i) x.mean
  pub share : Divides (reward_product ch (same i) i) ch.largest_reward (reward_share ch (same i) i) x.share
  pub mix : Divides (mixed n r (row_mean ch before i) (reward_share ch (same i) i)) (n + r) u x.mix

-- those of U(n,r) at i: each dividend, divisor and quotient is the one by which the vectors come about
abbrev pub Worked : Chain → ℕ → ℕ → ℕ → Rests → Type 0
Worked ch n r i x = StepDivides ch n r (U ch (n - 1) r) (U ch n (r - 1)) i (U ch n r i) x

-- of an answer: remainders that are given are those of U(n,r) at the state
abbrev pub WorkedOut : Answer (Option Rests) → List ℕ → ℕ → ℕ → ℕ → Type 0
WorkedOut (accepted (Some x)) s state n r = Worked (chain_of (model_of s)) n r (state - 1) x
WorkedOut (accepted None) s state n r = Unit {0}
WorkedOut (refused k) s state n r = Unit {0}
