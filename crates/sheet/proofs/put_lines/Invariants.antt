use Rattle.std.proofs.Common.{◌*◌}
use Rattle.definitions.specs.Sheet.{figure_lines}
use Rattle.writing.specs.Puts.{Puts}
use Rattle.sheet.proofs.put_lines.Given as goal

-- the lines of the cells so far stand there
abbrev pub invariant-loop-k : goal.invariant-loop-k
invariant-loop-k l = Puts (figure_lines l.solved.states l.solved.highest l.k l.solved.cells.now) (l.k * 23) l.initial.pen l.pen
