use Rattle.std.proofs.Common.{◌≤◌}
use Rattle.numerals.specs.Reading.{Read}
use Rattle.numerals.proofs.number_of.Given as goal

-- the bytes so far are read
abbrev pub invariant-loop-byte : goal.invariant-loop-byte
invariant-loop-byte l = record { read : Read l.text l.byte-index l.value; limit : l.value ≤ l.most }
