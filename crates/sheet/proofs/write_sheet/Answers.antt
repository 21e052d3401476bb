-- `write_sheet` meets its contract. Assumes nothing.
use Rattle.std.proofs.Common.{refl, arith}
use Rattle.definitions.specs.Sheet.{level_line, refused_line, sheet_of}
use Rattle.writing.specs.Puts.{then, printed}
use Rattle.sheet.specs.TextLaws.{area, places_limit}
use Rattle.sheet.proofs.write_sheet.Goals as goal
use Rattle.sheet.proofs.write_sheet.Goals.{in-Ok, in-Err}

pub put_word_line-requires : goal.put_word_line-requires
put_word_line-requires c = omega (arith, places_limit c.in-Ok.solved.run.level 19)

pub put_lines-requires : goal.put_lines-requires
put_lines-requires c = let solved = c.in-Ok.solved in omega (arith, area solved.shape, places_limit solved.run.level 19)

pub put_word_line-requires-in-Err : goal.put_word_line-requires-in-Err
put_word_line-requires-in-Err c = omega (arith, places_limit c.from.result 19)

pub returns : goal.returns
unfolding sheet_of level_line refused_line
returns c = elim c.match-outcome.branch [
  | in-Ok w ↦
      let solved = w.in-Ok.solved in
      let put = then w.put_word_line.ensures w.put_lines.ensures in
      rw (w.pen-is, w.in-Ok.is) (printed (omega (arith, area solved.shape, places_limit solved.run.level 19)) refl refl put)
  | in-Err w ↦
      let put = rw w.from.ensures at w.put_word_line-in-Err.ensures in
      rw (w.pen-is, w.in-Err.is) (printed (omega (arith, places_limit w.in-Err.row 19)) refl refl put)
]
