-- The sheet that is written is the file's.
use Rattle.std.specs.Prelude.{List, ◌≡◌, refl, ℕ, zero, suc, ◌+◌, ◌≤◌, length, take, replicate}
use Rattle.std.proofs.Common.{subst, mul-le-mul_right, length-take-le, arith}
use Rattle.std.proofs.lemmas.List.{get_or-take}
use Rattle.definitions.specs.declared.Run.{Run}
use Rattle.definitions.specs.File.{state_count, highest_moment, distributions}
use Rattle.definitions.specs.Rules.{Answer, accepted, refused, block_size}
use Rattle.definitions.specs.Moment.{outcome, cells_after}
use Rattle.definitions.specs.Sheet.{refused_line, figure_line, figure_lines, sheet_of, lent_cells, read_limit, sheet, printed_sheet}
use Rattle.laws.specs.ChainLaws.{distributions_max}
use Rattle.laws.specs.Acceptance.{AcceptedFile}
use Rattle.writing.specs.Printed.{Printed}
use Rattle.sheet.specs.Shape.{Shape}
use Rattle.report.specs.Held.{Holds}

-- the lines of a block are those of its cells alone
lines_taken : (M R n block : ℕ) (cells : List ℕ) → n ≤ block → figure_lines M R n (take block cells) ≡ figure_lines M R n cells
unfolding figure_line figure_lines
lines_taken M R zero block cells h = refl
lines_taken M R (suc n) block cells h = rw (lines_taken M R n block cells (omega arith), get_or-take block cells n 0 (omega arith))

sheet_taken : (run : Run) (M R block : ℕ) (cells : List ℕ) → block ≤ length cells → sheet_of (accepted run) M R (length (take block cells)) (take block cells) ≡ sheet_of (accepted run) M R block cells
unfolding sheet_of
sheet_taken run M R block cells room = rw (length-take-le block cells room, lines_taken M R block block cells (omega arith))

-- of an answer with the file's states, moments, block and cells
pub run_sheet : (s : List ℕ) {a : Answer Run} {M R block : ℕ} {cells old new : List ℕ} {n : ℕ} → a ≡ outcome s lent_cells → M ≡ state_count s → R ≡ highest_moment s → block ≡ block_size s → cells ≡ cells_after a s (replicate lent_cells 0) → Printed (sheet_of a M R block cells) old new n → Printed (sheet s) old new n
unfolding sheet
run_sheet s e em er eb ec p = rw (em, er, eb, ec, e) at p

-- of a run, with the cells of its block
pub solved_sheet : (s : List ℕ) (run : Run) {M R block : ℕ} {cells old new : List ℕ} {n : ℕ} → accepted run ≡ outcome s lent_cells → M ≡ state_count s → R ≡ highest_moment s → block ≡ block_size s → block ≤ length cells → cells ≡ cells_after (accepted run) s (replicate lent_cells 0) →
    Printed (sheet_of (accepted run) M R (length (take block cells)) (take block cells)) old new n → Printed (sheet s) old new n
solved_sheet s run {M} {R} {block} {cells} e em er eb room ec p = run_sheet s e em er eb ec (rw (sheet_taken run M R block cells room) at p)

-- of a refusal with its number, which reads none of them
pub refused_sheet : (s : List ℕ) (k : ℕ) {shown n : ℕ} {old new : List ℕ} → Printed (refused_line shown) old new n → shown ≡ k → refused k ≡ outcome s lent_cells → Printed (sheet s) old new n
unfolding sheet_of cells_after
refused_sheet s k p same e = run_sheet s {a = refused k} {cells = replicate lent_cells 0} e refl refl refl refl (rw same at p)

-- an accepted file's block has a row for each state, and may have one for the start, and the cells hold it
pub accepted_shape : (s : List ℕ) (M R block : ℕ) (cells : List ℕ) → AcceptedFile s (length cells) → M ≡ state_count s → R ≡ highest_moment s → block ≡ block_size s → Shape M R (take block cells) × (block ≤ length cells)
accepted_shape s M R block cells f em er eb =
    let rows : state_count s + distributions s ≤ state_count s + 1 = omega (arith, distributions_max s) in
    let long : length (take block cells) ≡ block_size s = rw eb (length-take-le (block_size s) cells f.room) in (
      record {
        states = omega (arith, f.model.framed.states_max);
        highest = omega (arith, f.model.limits.highest_max);
        rows = rw (long, em, er) (mul-le-mul_right (highest_moment s) rows);
      },
      rw eb f.room,
    )

-- the sheet of what a buffer holds is the program's, where the buffer has room for just as much as is read
pub held_sheet : (buffer : List ℕ) (count : ℕ) {old new : List ℕ} {n : ℕ} → length buffer ≡ read_limit → Printed (sheet (take count buffer)) old new n → (input : List ℕ) → Holds buffer count input → Printed (printed_sheet input) old new n
unfolding printed_sheet
held_sheet buffer count {old} {new} {n} long p input h =
    subst (λ (limit : ℕ). Printed (sheet (take limit input)) old new n) long (rw h at p)
