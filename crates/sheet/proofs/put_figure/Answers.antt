-- `sheet::put_figure` meets its contract: three texts, one after the other. Assumes nothing.
use Rattle.std.specs.Prelude.{◌≡◌}
use Rattle.definitions.specs.Sheet.{digit, figure}
use Rattle.writing.specs.Puts.{then}
use Rattle.sheet.proofs.put_figure.Goals as goal

pub returns : goal.returns
unfolding figure
returns c =
    let units : c.digit_at.result ≡ digit c.args.x 12 = c.digit_at.ensures in
    rw (← units) (then (then c.put.ensures c.put-2.ensures) c.put_digits.ensures)
