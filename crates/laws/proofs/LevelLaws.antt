-- The computed level is at most 563.
use Rattle.std.specs.Prelude.{ℕ, ◌≤◌, ◌<◌}
use Rattle.std.proofs.Common.{arith}
use Rattle.definitions.specs.Level.{level}
use Rattle.laws.specs.WeightLaws.{mode_low}
use Rattle.laws.specs.LevelLaws.{LEVELS, level_last}

module _ (X ε : ℕ) (jumps_max : X ≤ 256000000) (tolerance_pos : 1 ≤ ε) where
  pub level_max : level X ε < LEVELS
  level_max = omega (arith, level_last X ε jumps_max tolerance_pos, mode_low X)
