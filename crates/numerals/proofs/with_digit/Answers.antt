-- `with_digit` meets its contract: it tests for a digit and the limit, which no number past 64 bits keeps. Assumes nothing.
use Rattle.std.proofs.Common.{◌∙◌, sym, ap, ⊎_elim, Some, arith}
use Rattle.numerals.specs.Reading.{below_0, above_9, from_0_to_9, no_digit, past_limit, within_limit}
use Rattle.numerals.proofs.with_digit.Goals as goal

pub returns-then-not-is_ascii_digit : goal.returns-then-not-is_ascii_digit
returns-then-not-is_ascii_digit c =
    let args = c.args in
    ⊎_elim (λ low. sym (no_digit args.most args.value args.byte (below_0 args.byte low)))
    (λ high. sym (no_digit args.most args.value args.byte (above_9 args.byte high)))
    c.if-not-is_ascii_digit.ensures.cases

pub returns-in_err-checked_mul : goal.returns-in_err-checked_mul
returns-in_err-checked_mul c =
    let args = c.args in
    c.from_residual.ensures ∙ sym (past_limit args.most args.value args.byte (omega (arith, c.in_err-checked_mul.ensures)))

pub returns-in_err-more : goal.returns-in_err-more
returns-in_err-more c =
    let args = c.args in
    c.from_residual-in_err-more.ensures ∙ sym (past_limit args.most args.value args.byte (omega (arith, c.in_err-more.ensures, c.in_ok-checked_mul.ensures)))

pub returns-then-more-most : goal.returns-then-more-most
returns-then-more-most c =
    let args = c.args in
    let here = c.if-not-is_ascii_digit.ensures.cases in
    let digit = from_0_to_9 args.byte (omega (arith, here)) (omega (arith, here)) in
    ap Some (omega (arith, c.in_ok-more.ensures, c.in_ok-checked_mul.ensures))
    ∙ sym (within_limit args.most args.value args.byte digit (omega (arith, c.in_ok-more.ensures, c.in_ok-checked_mul.ensures)))

pub returns-else-more-most : goal.returns-else-more-most
returns-else-more-most c =
    let args = c.args in
    sym (past_limit args.most args.value args.byte (omega (arith, c.in_ok-more.ensures, c.in_ok-checked_mul.ensures)))
