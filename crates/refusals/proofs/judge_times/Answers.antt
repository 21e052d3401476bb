-- `refusals::judge_times` meets its contract: rows 14 and 15, then the jumps and the room. Assumes nothing.
use Rattle.std.specs.Prelude.{ℕ, ◌*◌, ◌≤◌, ◌≡◌, List, ◌++◌, length, drop, Err}
use Rattle.std.proofs.Common.{◌∙◌, sym, arith, rules}
use Rattle.definitions.specs.Rules.{accepted, Rows, listing, last_time, jumps, room, block_size, judged_by}
use Rattle.laws.specs.RuleLaws.{row_stops, row_passes}
use Rattle.laws.specs.RowLaws.{in_range, too_few, enough}
use Rattle.refusals.proofs.Parts.{first_refuses, second_answers}
use Rattle.refusals.proofs.judge_times.Goals.{Else-falls, Else-outside, Start}
use Rattle.refusals.proofs.judge_times.Goals as goal

abbrev times : Start → List ℕ
times start = start.args.times.now

-- row 12 of the last time, the room for the blocks, and for the levels
abbrev last : Start → Rows
last start = jumps start.args.rate (last_time (times start))

abbrev blocks : Start → Rows
blocks start = room (length (times start) * block_size start.args.file.now) start.args.cells

abbrev levels : Start → Rows
levels start = room (length (times start)) start.args.levels

abbrev listed : Start → Rows
listed start = listing (times start) ++ last start ++ blocks start ++ levels start

-- from the place past a row's test back to the start
abbrev start14 : Else-outside → Start
start14 c = (goal.at.Else-outside c).Start

abbrev start15 : Else-falls → Start
start15 c = start14 (goal.at.Else-falls c).Else-outside

-- past its test there are 1 to 8 times
count : (c : Else-outside) → (1 ≤ length (times (start14 c))) × (length (times (start14 c)) ≤ 8)
count c = in_range 1 8 (length (times (start14 c))) (sym c.if-outside.ensures)

past_14 : (c : Else-outside) → judged_by (listed (start14 c)) ≡ judged_by (drop 1 (listed (start14 c)))
unfolding listing
past_14 c = row_passes 14 _ _ _ (sym c.if-outside.ensures)

past_15 : (c : Else-falls) → judged_by (listed (start15 c)) ≡ judged_by (last (start15 c) ++ blocks (start15 c) ++ levels (start15 c))
unfolding listing
past_15 c = past_14 (goal.at.Else-falls c).Else-outside ∙ row_passes 15 _ _ _ (sym c.if-falls.ensures)

pub returns-then-outside : goal.returns-then-outside
unfolding listing
returns-then-outside c = sym (row_stops 14 _ _ _ (sym c.if-outside.ensures))

pub returns-then-falls : goal.returns-then-falls
unfolding listing
returns-then-falls c = sym (past_14 (goal.at.returns-then-falls c).Else-outside ∙ row_stops 15 _ _ _ (sym c.if-falls.ensures))

-- past the jumps the room answers
past_12 : (d : Else-falls) → accepted tt ≡ judged_by (last (start15 d)) → judged_by (blocks (start15 d) ++ levels (start15 d)) ≡ judged_by (listed (start15 d))
unfolding jumps
past_12 d jumped =
    let start = start15 d in
    second_answers (last start) (blocks start ++ levels start) tt tt tt jumped ∙ sym (past_15 d)

pub judge_room-requires : goal.judge_room-requires
judge_room-requires c = (c.requires.0, omega (arith, count (goal.at.judge_room-requires c).Else-outside))

pub returns-in_err-judge_room : goal.returns-in_err-judge_room
returns-in_err-judge_room c =
    let d = (goal.at.returns-in_err-judge_room c).Else-falls in
    let start = start15 d in
    let gave : c.from_residual-in_err-judge_room.result ≡ Err c.in_err-judge_room.field-0.0 = search rules in
    rw gave (first_refuses (blocks start) (levels start) tt tt _ c.in_err-judge_room.ensures ∙ past_12 d c.in_ok-judge_jumps.ensures)

pub returns-then-levels-count : goal.returns-then-levels-count
returns-then-levels-count c =
    let d = (goal.at.returns-then-levels-count c).Else-falls in
    let start = start15 d in
    sym (too_few (length (times start)) start.args.levels (omega arith))
    ∙ second_answers (blocks start) (levels start) tt tt tt c.in_ok-judge_room.ensures
    ∙ past_12 d c.in_ok-judge_jumps.ensures

pub returns : goal.returns
returns c =
    let d = (goal.at.returns c).Else-falls in
    let start = start15 d in
    sym (enough (length (times start)) start.args.levels (omega arith))
    ∙ second_answers (blocks start) (levels start) tt tt tt c.in_ok-judge_room.ensures
    ∙ past_12 d c.in_ok-judge_jumps.ensures

pub returns-in_err-judge_jumps : goal.returns-in_err-judge_jumps
unfolding jumps
returns-in_err-judge_jumps c =
    let d = (goal.at.returns-in_err-judge_jumps c).Else-falls in
    let start = start15 d in
    let gave : c.from_residual.result ≡ Err c.in_err-judge_jumps.field-0.0 = search rules in
    rw gave (first_refuses (last start) (blocks start ++ levels start) tt tt _ c.in_err-judge_jumps.ensures ∙ sym (past_15 d))
