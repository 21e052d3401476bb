-- `vectors::LentChain::step` meets its contract. The invariant: the states passed have U(n,r), and each took a row mean. Assumes nothing.
use Rattle.std.proofs.Common.{◌≡◌, ◌<◌, sym, ◌∙◌, ap, ap₂, ℕ, length, arith}
use Rattle.definitions.specs.Vectors.{row_mean, reward_share, mix, next_entry}
use Rattle.laws.specs.Rounding.{quotient}
use Rattle.laws.specs.ListLaws.{over_none, over_store}
use Rattle.laws.specs.ArrayLaws.{entry_of}
use Rattle.vectors.specs.Lent.{chain_in}
use Rattle.vectors.specs.ReadyLaws.{row_ready, mix_ready}
use Rattle.vectors.specs.DivisionLaws.{step_drops}
use Rattle.vectors.proofs.Filled.{fresh, length_fresh, fresh_padded}
use Rattle.vectors.proofs.LentChain.step.Goals as goal
use Rattle.vectors.proofs.LentChain.step.Goals.{Start, In-loop-i, After-loop-i}

-- U(n,r) of the arguments
abbrev u : Start → ℕ → ℕ
u start =
    let args = start.args in
    next_entry (chain_in args.self.now) args.n args.r (entry_of args.before) (entry_of args.same)

pub loop-i-init : goal.loop-i-init
loop-i-init c = record { counted = omega arith; filled = sym (over_none (u (goal.at.loop-i-init c).Start) (fresh c.args.self.now.rows.sizes.states)) }

-- i is a state
state : (c : In-loop-i) → c.loop-i.i < c.args.self.now.rows.sizes.states
state c =
    let all : length c.loop-i.entry-items ≡ c.args.self.now.rows.sizes.states = c.loop-i.auto.entry-items ∙ length_fresh c.args.self.now.rows.sizes.states c.args.self.now.ready.rewards.states_max in
    omega (arith, all)

pub row_mean-v-requires : goal.row_mean-v-requires
row_mean-v-requires c = row_ready c.args.self.now.ready c.requires.0 c.loop-i.i (state (goal.at.row_mean-v-requires c).In-loop-i)

pub reward_share-w-requires : goal.reward_share-w-requires
reward_share-w-requires c =
    let given = c.requires.0 in
    let chain = c.args.self.now.ready.rewards in
    let i = c.loop-i.i in
    let l = state (goal.at.reward_share-w-requires c).In-loop-i in
    omega (arith, chain.largest_pos, chain.largest_max, chain.reward i l, given.same_ticks.below i l)

pub mix-u-requires : goal.mix-u-requires
unfolding row_mean reward_share
mix-u-requires c =
    let mean = c.row_mean-v in
    mix_ready c.args.self.now.ready c.requires.0 c.loop-i.i (state (goal.at.mix-u-requires c).In-loop-i) mean.result.quotient c.reward_share-w.result.quotient
    (ap quotient (mean.ensures.mean c.args.self.now.rewards.now)) (ap quotient c.reward_share-w.ensures)

pub loop-i-preserved : goal.loop-i-preserved
unfolding row_mean reward_share mix next_entry
loop-i-preserved c =
    let args = c.args in
    let mean = ap quotient (c.row_mean-v.ensures.mean args.self.now.rewards.now) in
    let share = ap quotient c.reward_share-w.ensures in
    record {
      counted = omega arith;
      filled =
          over_store c.loop-i.i (u (goal.at.loop-i-preserved c).Start) (fresh args.self.now.rows.sizes.states) c.loop-i.entry-items c.mix-u.result.quotient (omega (arith, length_fresh args.self.now.rows.sizes.states args.self.now.ready.rewards.states_max, state (goal.at.loop-i-preserved c).In-loop-i)) c.loop-i.invariant.filled
          (ap quotient c.mix-u.ensures ∙ ap₂ (mix args.n args.r) mean share);
    }

-- all states are passed at the end
passed : (c : After-loop-i) → c.loop-i.i ≡ c.args.self.now.rows.sizes.states
passed c =
    let all : length c.loop-i.entry-items ≡ c.args.self.now.rows.sizes.states = c.loop-i.auto.entry-items ∙ length_fresh c.args.self.now.rows.sizes.states c.args.self.now.ready.rewards.states_max in
    omega (arith, all)

pub returns : goal.returns
returns c =
    let all = passed (goal.at.returns c).After-loop-i in
    let vector = fresh_padded c.args.self.now.rows.sizes.states c.loop-i.i (u (goal.at.returns c).Start) c.loop-i.entry-items c.args.self.now.ready.rewards.states_max c.loop-i.invariant.filled all in
    record { vector = vector; dropped = step_drops c.args.self.now.ready c.requires.0 vector; taken = omega (arith, all) }
