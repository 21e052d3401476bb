-- `remainders::rests_at` meets its contract: each division is that of the vectors. Assumes nothing.
use Prim.Native.Nat.{ℕ, ◌+◌, ◌-◌, ◌/◌, ◌%◌, ◌≤◌}
use mathlib.Core.List.{List, []}
use mathlib.Core.Path.{◌≡◌, refl, ap, ap₂, ◌∙◌}
use native.Mathlib.Omega.{arith}
use lib.ListN.{get_or}
use Rattle.definitions.specs.declared.Division.{Division}
use Rattle.definitions.specs.Division.{division}
use Rattle.definitions.specs.Chain.{Chain}
use Rattle.definitions.specs.Vectors.{row_total, row_mean, reward_product, reward_share, mixed, U, vector}
use Rattle.definitions.specs.Remainders.{mean_of, mean_dividend, share_of, share_dividend, mix_dividend, rests_at}
use Rattle.laws.specs.Rounding.{quotient, remainder}
use Rattle.laws.specs.ChainLaws.{itself}
use Rattle.laws.specs.ArrayLaws.{zeros, entry_of}
use Rattle.laws.specs.VectorLaws.{row_total_same}
use Rattle.laws.specs.MomentLaws.{count_max}
use Rattle.laws.specs.RemainderLaws.{same_rests}
use Rattle.vectors.specs.Lent.{chain_in}
use Rattle.vectors.specs.Ready.{StepReady}
use Rattle.vectors.specs.ReadyLaws.{row_ready, mix_ready}
use Rattle.vectors.specs.Table.{blank}
use Rattle.vectors.specs.StepLaws.{vector_ticks, get_d_vector}
use Rattle.vectors.specs.TableLaws.{table_row}
use Rattle.remainders.proofs.rests_at.Goals as goal
use Rattle.remainders.proofs.rests_at.Goals.{After-mix-u, After-next_table}

-- the two vectors that the divisions read, U(n−1,r) and U(n,r−1)
module _ (d : After-next_table) where
  abbrev ch : Chain
  ch = chain_in d.args.chain.now

  abbrev n : ℕ
  n = d.args.n

  abbrev r : ℕ
  r = d.args.r

  abbrev i : ℕ
  i = d.args.i

  abbrev before : List ℕ
  before = get_or d.table_at.new.table r []

  abbrev same : List ℕ
  same = get_or d.next_table.new.table (r - 1) []

  few : ch.states ≤ 64
  few = d.args.chain.now.ready.rewards.states_max

  is_before : before ≡ vector ch (n - 1) r
  is_before =
      ap (λ (t : List (List ℕ)). get_or t r []) d.table_at.ensures
      ∙ table_row ch d.args.chain.now.rows.sizes.highest (n - 1) d.requires.highest_max r d.requires.moment_max

  is_same : same ≡ vector ch n (r - 1)
  is_same =
      ap (λ (t : List (List ℕ)). get_or t (r - 1) []) d.next_table.ensures.table
      ∙ table_row ch d.args.chain.now.rows.sizes.highest n d.requires.highest_max (r - 1) (omega (arith, d.requires.moment_max))

  -- a step could be made of them
  step_ready : StepReady ch.states n r before same
  step_ready =
      record {
        indices = record { jumps_max = d.requires.jumps_max; moment_max = omega (arith, d.requires.moment_max, d.requires.highest_max); some = omega (arith, d.requires.jumps_min) };
        before_ticks = vector_ticks ch few (n - 1) r is_before d.args.chain.now.ready.stochastic;
        same_ticks = vector_ticks ch few n (r - 1) is_same d.args.chain.now.ready.stochastic;
      }

  -- the sum that V divides, and the product that W divides
  total : row_total ch (entry_of before) i ≡ mean_dividend ch n r i
  total =
      row_total_same ch ch (entry_of before) (U ch (n - 1) r) i (itself ch) d.requires.state
      (λ j l. ap (λ (v : List ℕ). get_or v j 0) is_before ∙ get_d_vector ch few (n - 1) r j l)

  product : reward_product ch (get_or same i 0) i ≡ share_dividend ch n r i
  product =
      ap (λ (x : ℕ). reward_product ch x i)
      (ap (λ (v : List ℕ). get_or v i 0) is_same ∙ get_d_vector ch few n (r - 1) i d.requires.state)

pub table_at-requires : goal.table_at-requires
unfolding blank zeros
table_at-requires c = (c.requires.highest_max, omega arith, refl)

pub next_table-requires : goal.next_table-requires
next_table-requires c =
    let given = c.requires in
    record {
      in_range = (given.highest_max, given.jumps_min, given.jumps_max, omega (arith, count_max _ _ 64 c.args.chain.now.ready.rewards.states_max given.highest_max));
      table_value = c.table_at.ensures;
    }

pub row_mean-v-requires : goal.row_mean-v-requires
row_mean-v-requires c =
    let d = (goal.at.row_mean-v-requires c).After-next_table in
    row_ready c.args.chain.now.ready (step_ready d) c.args.i c.requires.state

pub reward_share-w-requires : goal.reward_share-w-requires
reward_share-w-requires c =
    let given = step_ready (goal.at.reward_share-w-requires c).After-next_table in
    let rewards = c.args.chain.now.ready.rewards in
    let l = c.requires.state in
    omega (arith, rewards.largest_pos, rewards.largest_max, rewards.reward c.args.i l, given.same_ticks.below c.args.i l)

pub mix-u-requires : goal.mix-u-requires
unfolding row_mean reward_share
mix-u-requires c =
    let d = (goal.at.mix-u-requires c).After-next_table in
    mix_ready c.args.chain.now.ready (step_ready d) c.args.i c.requires.state c.row_mean-v.result.quotient c.reward_share-w.result.quotient
    (ap quotient (c.row_mean-v.ensures.mean c.args.chain.now.rewards.now)) (ap quotient c.reward_share-w.ensures)

-- V, W and U, and what each leaves
module _ (c : After-mix-u) where
  abbrev d : After-next_table
  d = (goal.at.After-mix-u c).After-next_table

  abbrev mean : Division
  mean = c.row_mean-v.result

  abbrev share : Division
  share = c.reward_share-w.result

  abbrev rate : ℕ
  rate = c.args.chain.now.rows.sizes.rate

  abbrev largest : ℕ
  largest = c.args.chain.now.rows.sizes.largest

  mean_divided : mean ≡ division (row_total (ch d) (entry_of (before d)) (i d)) rate
  mean_divided = c.row_mean-v.ensures.mean c.args.chain.now.rewards.now

  mean_is : mean.quotient ≡ mean_of (ch d) (n d) (r d) (i d)
  unfolding row_mean
  mean_is = omega (arith, ap quotient mean_divided, ap (λ (x : ℕ). x / rate) (total d))

  mean_leaves : mean.remainder ≡ mean_dividend (ch d) (n d) (r d) (i d) % rate
  mean_leaves = omega (arith, ap remainder mean_divided, ap (λ (x : ℕ). x % rate) (total d))

  share_is : share.quotient ≡ share_of (ch d) (n d) (r d) (i d)
  unfolding reward_share
  share_is = omega (arith, ap quotient c.reward_share-w.ensures, ap (λ (x : ℕ). x / largest) (product d))

  share_leaves : share.remainder ≡ share_dividend (ch d) (n d) (r d) (i d) % largest
  share_leaves = omega (arith, ap remainder c.reward_share-w.ensures, ap (λ (x : ℕ). x % largest) (product d))

  mix_leaves : c.mix-u.result.remainder ≡ mix_dividend (ch d) (n d) (r d) (i d) % (n d + r d)
  mix_leaves = omega (arith, ap remainder c.mix-u.ensures, ap₂ (λ (v w : ℕ). mixed (n d) (r d) v w % (n d + r d)) mean_is share_is)

pub returns : goal.returns
unfolding rests_at
returns c =
    let e = (goal.at.returns c).After-mix-u in
    same_rests _ _ (omega (arith, mean_leaves e)) (omega (arith, share_leaves e)) (omega (arith, mix_leaves e))
