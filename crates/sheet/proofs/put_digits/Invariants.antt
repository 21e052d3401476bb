use Rattle.std.proofs.Common.{◌≡◌, ◌+◌, length}
use Rattle.std.proofs.lemmas.List.Edits.{sets}
use Rattle.definitions.specs.Sheet.{digits}
use Rattle.sheet.proofs.put_digits.Given as goal

-- to put the digits that are left is to put all of them
abbrev pub invariant-loop-place : goal.invariant-loop-place
invariant-loop-place l = record {
  at : l.pen.at + l.place ≡ l.initial.pen.at + l.p;
  left : sets l.pen.out.now l.pen.at (digits l.x l.place) ≡ sets l.initial.pen.out.now l.initial.pen.at (digits l.x l.p);
  room : length l.pen.out.now ≡ length l.initial.pen.out.now;
  same_buffer : l.pen.out.ghost_name ≡ l.initial.pen.out.ghost_name;
}
