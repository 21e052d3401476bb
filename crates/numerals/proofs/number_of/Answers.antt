-- `number_of` meets its contract: byte by byte the text is read. Assumes nothing.
use Rattle.std.proofs.Common.{◌∙◌, sym, arith}
use Rattle.std.proofs.lemmas.Grind.{common_steps}
use Rattle.numerals.specs.Reading.{unread, goes_on, stops, read_whole, no_text}
use Rattle.numerals.proofs.number_of.Goals as goal

pub returns-then-is_empty : goal.returns-then-is_empty
returns-then-is_empty c = let args = c.args in sym (no_text args.most args.text.now (grind (arith, common_steps)))

pub loop-byte-init : goal.loop-byte-init
loop-byte-init c = record { read = unread c.args.text.now; limit = omega arith }

pub returns-in_err-value : goal.returns-in_err-value
returns-in_err-value c =
    c.from_residual.ensures ∙ sym (stops c.args.most (omega arith) (sym c.with_digit.ensures ∙ c.in_err-value.was) c.loop-byte.invariant.read)

pub loop-byte-preserved : goal.loop-byte-preserved
loop-byte-preserved c =
    let on = goes_on c.args.most (omega arith) (sym c.with_digit.ensures ∙ c.in_ok-value.was) c.loop-byte.invariant.read in
    record { read = on.0; limit = on.1 }

pub returns : goal.returns
returns c = sym (read_whole c.args.most (grind (arith, common_steps)) (omega arith) (omega arith) c.loop-byte.invariant.read)
