-- `muldiv::divide_by_few` meets its contract. Assumes nothing.
use Rattle.std.proofs.Common.{arith}
use Rattle.laws.specs.Rounding.{same_parts, between_multiples}
use Rattle.muldiv.proofs.divide_by_few.Goals as goal

pub returns-then-sum-c : goal.returns-then-sum-c
returns-then-sum-c c =
    let args = c.args in
    let parts = between_multiples args.sum args.c 0 (omega arith) (omega arith) in
    same_parts _ _ (omega arith) (omega arith)

pub returns-then-sum-c-2 : goal.returns-then-sum-c-2
returns-then-sum-c-2 c =
    let args = c.args in
    let parts = between_multiples args.sum args.c 1 (omega arith) (omega arith) in
    same_parts _ _ (omega arith) (omega arith)

pub returns-else-sum-c-2 : goal.returns-else-sum-c-2
returns-else-sum-c-2 c =
    let args = c.args in
    let parts = between_multiples args.sum args.c 2 (omega arith) (omega arith) in
    same_parts _ _ (omega arith) (omega arith)
