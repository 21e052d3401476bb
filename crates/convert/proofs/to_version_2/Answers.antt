-- `to_version_2` meets its contract: rows 1 to 12 and 16, then the room, then the moved file. Assumes nothing.
use Rattle.std.proofs.Common.{◌≡◌, ◌∙◌, sym, ap, length, arith}
use Rattle.std.proofs.lemmas.Result.{err_from_is_err_and}
use Rattle.definitions.specs.File.{state_count}
use Rattle.definitions.specs.Rules.{accepted, file_judgement}
use Rattle.laws.specs.ConvertLaws.{refused_there, no_room_there, written_there, answer_there}
use Rattle.convert.proofs.to_version_2.Goals as goal
use Rattle.convert.proofs.to_version_2.Goals.{After-state_count, In_ok-model}

-- past the rows the file is accepted
passed : (c : In_ok-model) → file_judgement 1 1 c.args.file.now ≡ accepted tt
passed c = sym c.in_ok-model.ensures.judged

states_read : (c : After-state_count) → c.state_count.result ≡ state_count c.args.file.now
states_read c = c.state_count.ensures ∙ ap state_count (c.model.view_is ∙ c.in_ok-model.ensures.same)

pub returns-in_err-model : goal.returns-in_err-model
returns-in_err-model c =
    let s = c.args.file.now in
    let lent = length c.args.out.now in
    let is = err_from_is_err_and c.from_residual.result c.from_residual.ensures.1 in
    let answer = refused_there s lent _ (sym c.in_err-model.ensures.judged) in
    record { answer = rw (is.1, is.2, answer); bytes = rw answer; moved = answer_there s (λ i. omega (arith, c.type_inv.file i)) lent }

pub returns-then-out-file : goal.returns-then-out-file
returns-then-out-file c =
    let s = c.args.file.now in
    let lent = length c.args.out.now in
    let states = states_read (goal.at.returns-then-out-file c).After-state_count in
    let answer = no_room_there s (λ i. omega (arith, c.type_inv.file i)) lent (passed (goal.at.returns-then-out-file c).In_ok-model) (omega (arith, states)) in
    record { answer = rw answer; bytes = rw answer; moved = answer_there s (λ i. omega (arith, c.type_inv.file i)) lent }

pub returns : goal.returns
returns c =
    let s = c.args.file.now in
    let lent = length c.args.out.now in
    let states = states_read (goal.at.returns c).After-state_count in
    let written = rw c.in_ok-model.ensures.same at c.put_version_2.ensures in
    let answer = written_there s (λ i. omega (arith, c.type_inv.file i)) lent (passed (goal.at.returns c).In_ok-model) (omega (arith, states)) in
    record { answer = rw answer (ap accepted written.counted); bytes = rw answer written.bytes; moved = answer_there s (λ i. omega (arith, c.type_inv.file i)) lent }
