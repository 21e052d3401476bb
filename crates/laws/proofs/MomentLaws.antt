-- A model's last quotients are within one tick, and its level is within its bounds.
use Rattle.std.specs.Prelude.{ℕ, ◌≤◌}
use Rattle.std.proofs.Common.{arith}
use Rattle.definitions.specs.Chain.{Model, jump_millionths}
use Rattle.definitions.specs.Vectors.{ONE}
use Rattle.definitions.specs.Weights.{mode, weight_sum}
use Rattle.definitions.specs.Level.{last_level}
use Rattle.definitions.specs.Moment.{weighted, last_quotient, weighted_mean, model_level}
use Rattle.laws.specs.Nearest.{nearest_within}
use Rattle.laws.specs.WeightLaws.{weight_sum_min}
use Rattle.laws.specs.Acceptance.{WithinLimits}
use Rattle.laws.specs.LevelLaws.{level_is, level_last}
use Rattle.laws.proofs.LevelLaws.{level_max}
use Rattle.laws.proofs.AverageBound.{LastQuotient}
use Rattle.laws.specs.MomentLaws.{weighted_max, last_max}

-- it is within one tick and in [0, 1]
pub last_within : (X N : ℕ) (u : ℕ → ℕ) → mode X ≤ N → ((n : ℕ) → n ≤ N → u n ≤ ONE) → LastQuotient (weighted X u N) (weight_sum X N) (weighted_mean X u N)
unfolding weighted_mean last_quotient
last_within X N u reached h = grind (arith, weight_sum_min, nearest_within, last_max, weighted_max)

-- the level of a model within its limits is 1 to 563
pub level_range : (m : Model) → WithinLimits m → (1 ≤ model_level m) × (model_level m ≤ 563)
unfolding model_level
level_range m g = grind (arith, level_is, level_max)

-- and at most 2m + 51
pub level_bounded : (m : Model) → WithinLimits m → model_level m ≤ last_level (jump_millionths m)
unfolding model_level
level_bounded m g = level_last (jump_millionths m) m.tolerance g.jumps_max g.tolerance_pos
