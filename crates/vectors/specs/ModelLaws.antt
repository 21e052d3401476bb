-- The arrays of a model's chain are ready for the steps, and hold the model's own vectors. Assumes nothing.
use Rattle.std.specs.Prelude.{◌≡◌, List, ℕ, ◌≤◌, ◌<◌}
use Rattle.std.proofs.Common.{ap, arith}
use Rattle.definitions.specs.declared.Sizes.{Sizes}
use Rattle.definitions.specs.Sums.{sum}
use Rattle.definitions.specs.Chain.{Model, Chain, Listing, at_time, max_reward, chain_of, padded, arrays, sizes_of}
use Rattle.laws.specs.SumLaws.{sum_same}
use Rattle.laws.specs.ChainLaws.{SameChain, rate_at_lem, sizes_at}
use Rattle.laws.specs.ArrowLaws.{HoldsRows, count_max, target_max, arrays_same}
use Rattle.laws.specs.VectorLaws.{Stochastic}
use Rattle.laws.specs.Acceptance.{WithinLimits}
use Rattle.laws.proofs.Acceptance.{stochastic}
use Rattle.vectors.specs.Ready.{Ready}

-- a chain that agrees with one in range is in range
stochastic_same : (a b : Chain) → SameChain a b → Stochastic b → Stochastic a
stochastic_same a b e s =
    record {
      row = λ i l. omega (arith, rows i l, s.row i (omega (arith, e.states)), e.rate);
      reward = λ i l. omega (arith, e.reward i l, s.reward i (omega (arith, e.states)), e.largest_reward);
    }
  where
    rows : (i : ℕ) → i < a.states → sum a.states (a.entry i) ≡ sum b.states (b.entry i)
    rows i l = rw (← e.states) (sum_same a.states (a.entry i) (b.entry i) (λ j k. e.entry i j l k))

-- sizes and arrays that hold a model's chain
pub record Held (m : Model) (z : Sizes) (a : Listing) (f : List ℕ) : Type 0 where
  pub sizes : z ≡ sizes_of m
  pub rows : HoldsRows m a
  pub rewards : f ≡ padded m.states m.reward

-- what the arrays hold is the model's chain
pub held_same : (m : Model) {z : Sizes} {a : Listing} {f : List ℕ} → Held m z a f → m.states ≤ 64 → SameChain (arrays z a f) (chain_of m)
held_same m {a = a} {f = f} h few = rw h.sizes (arrays_same m a h.rows f h.rewards few)

-- they are ready for the steps, where the model is within its limits at some time: the time has no part in them
pub held_ready : (m : Model) (T : ℕ) {z : Sizes} {a : Listing} {f : List ℕ} → Held m z a f → WithinLimits (at_time m T) → Ready z a f
held_ready m T {a = a} {f = f} h limits =
    let largest : max_reward (at_time m T) ≡ max_reward m = ap (λ (z : Sizes). z.largest) (sizes_at m T) in
    let range : Stochastic (arrays (sizes_of m) a f) = stochastic_same (arrays (sizes_of m) a f) (chain_of m) (arrays_same m a h.rows f h.rewards limits.states_max) (stochastic m) in
    rw h.sizes
    (record {
      rewards = record {
        states_max = limits.states_max;
        largest_pos = omega (arith, limits.rewards_pos, largest);
        largest_max = omega (arith, limits.rewards_max, largest);
        reward = range.reward;
      };
      places = record {
        target_room = h.rows.target_room;
        rate_room = h.rows.rate_room;
        count_max = count_max m a h.rows;
        target_max = target_max m a h.rows;
      };
      rate_pos = omega (arith, limits.rate_min, rate_at_lem m T);
      rate_max = omega (arith, limits.rate_max, rate_at_lem m T);
      stochastic = range;
    })
