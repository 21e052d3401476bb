use Rattle.std.proofs.Common.{◌≡◌, ◌-◌, ◌≤◌}
use Rattle.definitions.specs.Sheet.{places}
use Rattle.sheet.proofs.places_of.Given as goal

-- x is below the powers that were passed
abbrev pub invariant-loop-p : goal.invariant-loop-p
invariant-loop-p l = record { some : 1 ≤ l.p; passed : places l.x (l.p - 1) ≡ places l.x 19 }
