use Rattle.muldiv.specs.MulDiv.{Walked}
use Rattle.muldiv.proofs.divide_by_bits.Given as goal

abbrev pub invariant-loop-k : goal.invariant-loop-k
invariant-loop-k l = Walked l.a l.b l.c l.k l.quotient l.remainder
