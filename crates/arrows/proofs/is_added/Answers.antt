-- `arrows::is_added` meets its contract. Assumes nothing.
use Rattle.std.proofs.Common.{refl, eq-eqb, ne_eqb}
use Rattle.arrows.proofs.is_added.Goals as goal

pub returns-then-j-i : goal.returns-then-j-i
returns-then-j-i c = rw (eq-eqb c.args.j c.args.i c.if-j-i.true) refl

pub returns-else-j-i : goal.returns-else-j-i
returns-else-j-i c = rw (ne_eqb c.args.j c.args.i c.if-j-i.false) refl
