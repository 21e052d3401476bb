-- `muldiv::scaled` meets its contract: by what it requires there is a quotient. Assumes nothing.
use Rattle.std.proofs.Common.{sym, ap, ◌∙◌, is_some}
use Rattle.muldiv.specs.QuotientLaws.{divided_into, was_given}
use Rattle.muldiv.proofs.scaled.Goals as goal

pub unwrap-requires : goal.unwrap-requires
unwrap-requires c = ap is_some (c.mul_div.ensures ∙ divided_into _ _ _ c.requires)

pub returns : goal.returns
returns c = (was_given c.args.a c.args.b c.args.c c.unwrap.result (sym c.mul_div.ensures ∙ c.unwrap.ensures)).value
