-- Document 02, S-9: a model with no lower reward rates than another, the largest being the same, has its rates and its level. That no figure is lower, and that
-- the moment for r + 1 is at most that for r, is shown in proofs/.
use Rattle.std.specs.Prelude.{ℕ, ◌*◌, ◌-◌, max, ◌≤◌, ◌<◌, ◌≡◌, refl}
use Rattle.std.proofs.Common.{arith, le_refl, ◌∙◌, eq-eqb, ne_eqb, le_antisymm, ap, ap₂}
use Rattle.std.proofs.Math.Decide.{ℕ_discrete}
use Rattle.definitions.specs.Sums.{sum, largest}
use Rattle.definitions.specs.Chain.{Model, jump_rate, row_sum, uniform_rate, c, max_reward, jump_millionths, at_time, at_reward}
use Rattle.definitions.specs.Level.{level}
use Rattle.definitions.specs.Moment.{model_level}
use Rattle.laws.specs.SumLaws.{sum_same, le_largest, largest_le, largest_same}
use Rattle.laws.specs.ChainLaws.{reward_le_largest}

-- model b has no lower reward rates than model a, and none above the largest of a; all else is the same, at the states, and the starting weights where there is a
-- starting distribution
pub record RaisedModel (a b : Model) : Type 0 where
  pub states : a.states ≡ b.states
  pub highest : a.highest ≡ b.highest
  pub tolerance : a.tolerance ≡ b.tolerance
  pub time : a.time ≡ b.time
  pub distributions : a.distributions ≡ b.distributions
  pub start : 0 < a.distributions → (i : ℕ) → i < a.states → a.start i ≡ b.start i
  pub no_lower : (i : ℕ) → i < a.states → a.reward i ≤ b.reward i
  pub not_past : (i : ℕ) → i < a.states → b.reward i ≤ max_reward a
  pub transition : (i j : ℕ) → i < a.states → j < a.states → (j ≡ i → ⊥) → a.transition i j ≡ b.transition i j

module _ (a b : Model) (e : RaisedModel a b) where
  -- F is the same
  pub largest_kept : max_reward a ≡ max_reward b
  unfolding max_reward
  largest_kept =
      le_antisymm
      (largest_le a.states (max_reward b) a.reward (λ i l. omega (arith, e.no_lower i l, le_largest b.states b.reward i (omega (arith, e.states)))))
      (largest_le b.states (max_reward a) b.reward (λ i l. omega (arith, e.not_past i (omega (arith, e.states)))))

  -- so are the row sums, E and c
  jump_kept : (i j : ℕ) → i < a.states → j < a.states → jump_rate a i j ≡ jump_rate b i j
  unfolding jump_rate
  jump_kept i j li lj = grind arith

  pub sum_kept : (i : ℕ) → i < a.states → row_sum a i ≡ row_sum b i
  unfolding row_sum
  sum_kept i l = sum_same a.states (jump_rate a i) (jump_rate b i) (λ j k. jump_kept i j l k) ∙ ap (λ (n : ℕ). sum n (jump_rate b i)) e.states

  pub rate_kept : uniform_rate a ≡ uniform_rate b
  unfolding uniform_rate
  rate_kept = ap (max 1) (largest_same a.states (row_sum a) (row_sum b) sum_kept ∙ ap (λ (n : ℕ). largest n (row_sum b)) e.states)

  pub entry_kept : (i j : ℕ) → i < a.states → j < a.states → c a i j ≡ c b i j
  unfolding c
  entry_kept i j li lj = elim (ℕ_discrete j i) [ yes same ↦ rw (eq-eqb j i same) (ap₂ ◌-◌ rate_kept (sum_kept i li)) | no other ↦ rw (ne_eqb j i other) (e.transition i j li lj other) ]

  -- X and the level
  pub jumps_kept : jump_millionths a ≡ jump_millionths b
  unfolding jump_millionths
  jumps_kept = ap₂ ◌*◌ rate_kept e.time

  pub level_kept : model_level a ≡ model_level b
  unfolding model_level
  level_kept = ap₂ level jumps_kept e.tolerance

-- a raised model is raised at any other time
pub raised_at : (a b : Model) → RaisedModel a b → (T : ℕ) → RaisedModel (at_time a T) (at_time b T)
unfolding max_reward
raised_at a b e T = grind arith

-- a model with one reward rate from its own to the largest is raised
pub one_raised : (m : Model) (i x : ℕ) → m.reward i ≤ x → x ≤ max_reward m → RaisedModel m (at_reward m i x)
one_raised m i x low high =
    record {
      states = refl;
      highest = refl;
      tolerance = refl;
      time = refl;
      distributions = refl;
      start = λ some j l. refl;
      no_lower = λ j l. elim (ℕ_discrete j i) [ yes same ↦ rw (eq-eqb j i same) (omega (arith, low, ap m.reward same)) | no other ↦ rw (ne_eqb j i other) (le_refl (m.reward j)) ];
      not_past = λ j l. elim (ℕ_discrete j i) [ yes same ↦ rw (eq-eqb j i same) high | no other ↦ rw (ne_eqb j i other) (reward_le_largest m j l) ];
      transition = λ j k lj lk other. refl;
    }
