-- Every sentence of Theorems is proved.
use Rattle.std.proofs.Common.{arith}
use Rattle.definitions.specs.Theorems.{Theorems}
use Rattle.laws.specs.Nearest.{nearest_within, half_up}
use Rattle.laws.specs.ChainLaws.{row_sums_to_rate}
use Rattle.laws.specs.RuleLaws.{accepted_is_no_refusal}
use Rattle.laws.specs.VectorLaws.{U_zero, U_first_written, U_next_written, one_for_each}
use Rattle.laws.specs.ArrowLaws.{arrows_listed, same_by_arrows}
use Rattle.laws.specs.LevelLaws.{level_is}
use Rattle.laws.proofs.LevelLaws.{level_max}
use Rattle.laws.proofs.AverageBound.{weights_covered}
use Rattle.laws.proofs.MomentFalls.{moment_falls}
use Rattle.laws.proofs.OrderLaws.{reward_raised}
use Rattle.laws.specs.ConvertLaws.{start_there}
use Rattle.laws.specs.PracticeLaws.{dealt}
use Rattle.laws.specs.SheetLaws.{cells_enough}
use Rattle.laws.proofs.SheetLaws.{read_whole, read_no_part}

pub theorems : Theorems
theorems =
    record {
      rows_sum = row_sums_to_rate;
      vector_zero = U_zero;
      vector_first = U_first_written;
      vector_next = U_next_written;
      level_least = level_is;
      level_exists = λ X ε jumps_max tolerance_pos. omega (arith, level_max X ε jumps_max tolerance_pos);
      level_no_smaller = λ X ε L jumps_pos jumps_max tolerance_pos past. weights_covered X ε _ L jumps_pos (level_is X ε jumps_max tolerance_pos).passes past;
      no_refusal = λ run k. accepted_is_no_refusal run k;
      cells_enough = cells_enough;
      read_whole = read_whole;
      read_no_part = read_no_part;
      nearest_within = nearest_within;
      half_up = half_up;
      start_moved = start_there;
      every_seed = dealt;
      arrows_listed = arrows_listed;
      same_by_arrows = same_by_arrows;
      one_for_each = one_for_each;
      moment_falls = moment_falls;
      reward_raised = reward_raised;
    }
