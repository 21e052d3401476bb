-- `muldiv::total` meets its contract. Assumes nothing.
use Rattle.std.proofs.Common.{ap, ◌∙◌, Some, ◌≡◌, ◌+◌, ◌*◌, sym, arith}
use Rattle.muldiv.specs.QuotientLaws.{fitted_small, fitted_large}
use Rattle.muldiv.proofs.total.Goals as goal

pub returns-in_err-checked_mul : goal.returns-in_err-checked_mul
returns-in_err-checked_mul c = rw c.from_residual.ensures (sym (fitted_large _ _ (omega (arith, c.in_err-checked_mul.ensures))))

pub returns-in_err-quotient : goal.returns-in_err-quotient
returns-in_err-quotient c = rw c.from_residual-in_err-quotient.ensures (sym (fitted_large _ _ (omega (arith, c.in_err-quotient.ensures, c.in_ok-checked_mul.ensures))))

pub returns : goal.returns
returns c =
    let args = c.args in
    let sum : c.in_ok-quotient.quotient ≡ args.high * args.b + args.low.quotient = omega (arith, c.in_ok-quotient.ensures, c.in_ok-checked_mul.ensures) in
    ap (λ q. Some (record { quotient = q; remainder = args.low.remainder })) sum ∙ sym (fitted_small _ _ (omega (arith, c.in_ok-quotient.ensures)))
