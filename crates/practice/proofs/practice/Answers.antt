-- `practice` meets its contract: rows 4 and 5, then the room, then the file. Assumes nothing.
use Rattle.std.proofs.Common.{◌≡◌, ◌*◌, ◌≤◌, length, refl, sym, ap, mul-le-mul, arith}
use Rattle.std.proofs.lemmas.Result.{err_from_is_err_and}
use Rattle.definitions.specs.Rules.{accepted, dimensions, judged_by}
use Rattle.laws.specs.RowLaws.{in_dimensions}
use Rattle.laws.specs.PracticeLaws.{dealing_refused, no_room_to_deal, dealing_accepted, dealt_well}
use Rattle.practice.proofs.practice.Goals as goal
use Rattle.practice.proofs.practice.Goals.{In_ok-judge_dimensions}

-- past the rows M and R are accepted,
-- so that they are in range and M × M is at most 64 × 64
passed : (c : In_ok-judge_dimensions) → let args = c.args in judged_by (dimensions args.states args.highest) ≡ accepted tt
passed c = sym c.in_ok-judge_dimensions.ensures

inside : (c : In_ok-judge_dimensions) → let args = c.args in ((1 ≤ args.states) × (args.states ≤ 64)) × ((1 ≤ args.highest) × (args.highest ≤ 8))
inside c = let args = c.args in in_dimensions args.states args.highest (passed c)

square : (c : In_ok-judge_dimensions) → let args = c.args in args.states * args.states ≤ 64 * 64
square c = mul-le-mul (inside c).0.1 (inside c).0.1

pub returns-in_err-judge_dimensions : goal.returns-in_err-judge_dimensions
returns-in_err-judge_dimensions c =
    let args = c.args in
    let passed_on = err_from_is_err_and c.from_residual.result c.from_residual.ensures.1 in
    let answer = dealing_refused args.states args.highest args.seed (length args.out.now) _ (sym c.in_err-judge_dimensions.ensures) in
    record { answer = rw (passed_on.1, passed_on.2, answer); bytes = rw answer; dealt = dealt_well args.states args.highest args.seed (length args.out.now) }

pub returns-then-out-states : goal.returns-then-out-states
returns-then-out-states c =
    let args = c.args in
    let answer = no_room_to_deal args.states args.highest args.seed (length args.out.now) (passed (goal.at.returns-then-out-states c).In_ok-judge_dimensions) (omega arith) in
    record { answer = rw answer; bytes = rw answer refl; dealt = dealt_well args.states args.highest args.seed (length args.out.now) }

pub returns : goal.returns
returns c =
    let args = c.args in
    let written = c.put_file.ensures in
    let answer = dealing_accepted args.states args.highest args.seed (length args.out.now) (passed (goal.at.returns c).In_ok-judge_dimensions) (omega arith) in
    record {
      answer = rw answer (ap accepted written.counted);
      bytes = rw answer written.bytes;
      dealt = dealt_well args.states args.highest args.seed (length args.out.now);
    }

pub put_file-requires : goal.put_file-requires
put_file-requires c = omega (arith, inside (goal.at.put_file-requires c).In_ok-judge_dimensions)

pub overflow_mul-states : goal.overflow_mul-states
overflow_mul-states c = omega (arith, inside c)

pub overflow_mul-states-2 : goal.overflow_mul-states-2
overflow_mul-states-2 c = omega (arith, square c)

pub overflow_add-states : goal.overflow_add-states
overflow_add-states c = omega (arith, square c)

pub overflow_cast-states : goal.overflow_cast-states
overflow_cast-states c = omega (arith, inside (goal.at.overflow_cast-states c).In_ok-judge_dimensions)

pub overflow_cast-highest : goal.overflow_cast-highest
overflow_cast-highest c = omega (arith, inside (goal.at.overflow_cast-highest c).In_ok-judge_dimensions)
