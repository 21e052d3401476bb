-- The range of a step: what is handed to it keeps its sums and products below 2^64, and V and W are in range again. Assumes nothing.
use Rattle.std.specs.Prelude.{List, [], ◌≡◌, ℕ, ◌*◌, ◌<◌, eqb, get_or}
use Rattle.std.proofs.Common.{mul-le-mul_right, arith}
use Rattle.definitions.specs.declared.Sizes.{Sizes}
use Rattle.definitions.specs.Chain.{Listing, listed, target_at, rate_at, arrays}
use Rattle.definitions.specs.Vectors.{ONE, row_mean, reward_share}
use Rattle.definitions.specs.Sums.{sum, pick}
use Rattle.laws.specs.SumLaws.{sum_zero, sum_none}
use Rattle.laws.specs.ArrowLaws.{sum_by_target}
use Rattle.laws.specs.VectorLaws.{Stochastic, row_bound, row_mean_bound, reward_share_bound}
use Rattle.laws.specs.ArrayLaws.{entry_of}
use Rattle.vectors.specs.Ready.{RewardsReady, Placed, product_at, Ready, RowReady, MixReady, StepReady}

-- the products of row i, place by place, sum to the row's total
pub row_total_lem : {M : ℕ} (a : Listing) (v : List ℕ) (i : ℕ) → Placed M a → i < M → sum M (λ j. sum (get_or a.counts i 0) (λ k. pick (eqb (target_at M a i k) j) (rate_at M a i k) 0) * entry_of v j) ≡ sum (get_or a.counts i 0) (product_at M a v i)
row_total_lem {M} a v i places l = sum_by_target M (get_or a.counts i 0) (target_at M a i) (rate_at M a i) (entry_of v) (λ k b. places.target_max i k l b)

module _ {z : Sizes} {a : Listing} {f : List ℕ} {n r : ℕ} {before same : List ℕ} (ready : Ready z a f) (given : StepReady z.states n r before same) (i : ℕ) (l : i < z.states) where
  -- a row's sum of products is at most 10^7 × 10^12
  pub row_ready : RowReady z a before i
  row_ready =
      record {
        state = omega arith;
        states_max = omega arith;
        places = ready.places;
        rate_pos = omega arith;
        fits = omega (arith, row_total_lem a before i ready.places l, row_bound (arrays z a f) (entry_of before) ONE i ready.stochastic l given.before_ticks.below, mul-le-mul_right ONE ready.rate_max);
      }

  -- V and W are at most ONE
  pub mix_ready : (v w : ℕ) → v ≡ row_mean (arrays z a f) (entry_of before) i → w ≡ reward_share (arrays z a f) (get_or same i 0) i → MixReady n r v w
  mix_ready v w ev ew =
      record {
        indices = given.indices;
        mean_max = omega (arith, row_mean_bound (arrays z a f) (entry_of before) ONE i ready.stochastic l given.before_ticks.below);
        share_max = omega (arith, reward_share_bound (arrays z a f) (get_or same i 0) ONE i (ready.stochastic.reward i l) (given.same_ticks.below i l));
      }

-- f alone, with no c: what the vectors of n = 0 stay in range on
pub no_chain : {z : Sizes} {f : List ℕ} → RewardsReady z f → Stochastic (arrays z (listed [] [] []) f)
no_chain {z} ready = record { row = λ i l. omega (arith, sum_none z.states ((arrays z (listed [] [] []) []).entry i) (λ j b. sum_zero _)); reward = ready.reward }
