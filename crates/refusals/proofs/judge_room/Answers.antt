-- `refusals::judge_room` meets its contract: row 13. Assumes nothing.
use Rattle.std.specs.Prelude.{◌*◌, ◌≤◌}
use Rattle.std.proofs.Common.{sym, arith, mul-le-mul}
use Rattle.laws.specs.RowLaws.{too_few, enough}
use Rattle.refusals.proofs.judge_room.Goals as goal

-- at most 8 blocks of 520 cells
pub overflow_mul-blocks : goal.overflow_mul-blocks
overflow_mul-blocks c =
    let all : c.args.blocks * c.block_size.result ≤ 8 * 520 = mul-le-mul {n₂ = 8} {m₂ = 520} (omega arith) (omega (arith, c.block_size.ensures.most)) in
    omega arith

pub returns-then-cells-blocks : goal.returns-then-cells-blocks
returns-then-cells-blocks c = sym (too_few _ _ (rw c.block_size.ensures.value at c.if-cells-blocks.true))

pub returns : goal.returns
returns c = sym (enough _ _ (rw c.block_size.ensures.value at c.if-cells-blocks.false))
