-- `put_lines` meets its contract. Assumes nothing.
use Rattle.std.proofs.Common.{refl, add-one, arith}
use Rattle.definitions.specs.Sheet.{figure_lines}
use Rattle.writing.specs.Puts.{nothing, then, wider}
use Rattle.sheet.specs.TextLaws.{Narrow, narrow, line_of}
use Rattle.sheet.proofs.put_lines.Goals as goal
use Rattle.sheet.proofs.put_lines.Goals.{In-loop-k}

numbers : (c : In-loop-k) → Narrow c.args.solved.now.highest c.loop-k.k
numbers c = narrow c.loop-k.k c.args.solved.now.shape (omega arith)

pub loop-k-init : goal.loop-k-init
unfolding figure_lines
loop-k-init c = nothing refl

pub put_line-requires : goal.put_line-requires
put_line-requires c = omega (arith, c.args.solved.now.shape, numbers (goal.at.put_line-requires c).In-loop-k)

-- the lines of the cells before,
-- and the line of this cell
pub loop-k-preserved : goal.loop-k-preserved
unfolding figure_lines
loop-k-preserved c =
    let k = c.loop-k.k in
    let solved = c.args.solved.now in
    let text = then c.loop-k.invariant c.put_line.ensures in
    rw (add-one k, line_of solved.states solved.highest k solved.cells.now) (wider (omega (arith, numbers (goal.at.loop-k-preserved c).In-loop-k)) text)
