-- `remainders::Accepted::rests_in` meets its contract: what is read of the file is its model, and the arrays leave what the model leaves. Assumes nothing.
use Prim.Native.Nat.{◌-◌}
use mathlib.Core.Path.{◌≡◌, ◌∙◌, ap}
use native.Mathlib.Omega.{arith}
use Rattle.definitions.specs.declared.Sizes.{Sizes}
use Rattle.definitions.specs.Chain.{Model, Listing, model_of, chain_of}
use Rattle.laws.proofs.MomentLaws.{level_range}
use Rattle.laws.specs.RemainderLaws.{rests_same}
use Rattle.vectors.specs.Arrows.{arrow_listing}
use Rattle.vectors.specs.ModelLaws.{Held, held_ready, held_same}
use Rattle.remainders.proofs.Accepted.rests_in.Goals as goal
use Rattle.remainders.proofs.Accepted.rests_in.Given.{Over}
use Rattle.remainders.proofs.Accepted.rests_in.Goals.{After-rewards-rewards}

-- the arrays that were read hold the file's chain
module _ (g : Over) (c : After-rewards-rewards g) where
  abbrev m : Model
  m = model_of c.args.self.now.file

  abbrev rows : Listing
  rows =
      let last = c.list_rows.new in
      arrow_listing last.arrows last.counts

  read : Held m c.args.self.now.sizes rows c.rewards-rewards.result
  read =
      record {
        sizes = c.args.self.now.sizes_value;
        rows = c.list_rows.ensures.held;
        rewards = c.rewards-rewards.ensures;
      }

pub invariant_of-chain : goal.invariant_of-chain
invariant_of-chain g c =
    let d = (goal.at.invariant_of-chain g c).After-rewards-rewards in
    record { ready = held_ready (m g d) (m g d).time (read g d) c.args.self.now.accepted.limits }

pub rests_at-requires : goal.rests_at-requires
rests_at-requires g c =
    let d = (goal.at.rests_at-requires g c).After-rewards-rewards in
    let limits = c.args.self.now.accepted.limits in
    let within = c.requires.inside in
    let highest : c.args.self.now.sizes.highest ≡ (m g d).highest = ap (λ (z : Sizes). z.highest) (read g d).sizes in
    let states : c.args.self.now.sizes.states ≡ (m g d).states = ap (λ (z : Sizes). z.states) (read g d).sizes in
    record {
      highest_max = omega (arith, highest, limits.highest_max);
      jumps_min = within.jumps_min;
      jumps_max = omega (arith, within.jumps_max, (level_range (m g d) limits).1);
      moment_min = within.moment_min;
      moment_max = omega (arith, highest, within.moment_max);
      state = omega (arith, states, within.state_min, within.state_max);
    }

pub returns : goal.returns
returns g c =
    let d = (goal.at.returns g c).After-rewards-rewards in
    let args = c.args in
    let within = c.requires.inside in
    let states : args.self.now.sizes.states ≡ (m g d).states = ap (λ (z : Sizes). z.states) (read g d).sizes in
    c.rests_at.ensures
    ∙ rests_same _ (chain_of (m g d)) (held_same (m g d) (read g d) c.args.self.now.accepted.limits.states_max) args.asked.n args.asked.r (args.asked.state - 1) (omega (arith, states, within.state_min, within.state_max))
