-- The sheet of a run with what it filled, or of a refusal. Assumes nothing.
use Rattle.std.specs.Prelude.{List, ℕ, length, Result, Ok, Err}
use Rattle.definitions.specs.Rules.{accepted}
use Rattle.definitions.specs.Sheet.{sheet_of, refused_line}
use Rattle.sheet.specs.declared.solved.Solved.{Solved}

abbrev pub sheet_shown : Result Solved ℕ → List ℕ
sheet_shown (Ok s) = sheet_of (accepted s.run) s.states s.highest (length s.cells.now) s.cells.now
sheet_shown (Err row) = refused_line row
