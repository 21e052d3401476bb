-- `to_version_1` meets its contract: rows 1 to 12 and 16, then 17, then the room, then the moved file. Assumes nothing.
use Rattle.std.proofs.Common.{◌≡◌, ◌∙◌, refl, sym, ap, ◌-◌, ◌+◌, length, arith}
use Rattle.std.proofs.lemmas.Result.{err_from_is_err_and}
use Rattle.definitions.specs.Sums.{any_above}
use Rattle.definitions.specs.File.{state_count, weight_field}
use Rattle.definitions.specs.Rules.{accepted, file_judgement}
use Rattle.laws.specs.ConvertLaws.{refused_back, weighed_elsewhere, no_room_back, written_back, answer_back}
use Rattle.convert.proofs.to_version_1.Goals as goal
use Rattle.convert.proofs.to_version_1.Goals.{After-state_count, After-weight_elsewhere, In_ok-model}

-- past rows 1 to 12 and 16 the file is accepted
passed : (c : In_ok-model) → file_judgement 2 2 c.args.file.now ≡ accepted tt
passed c = sym c.in_ok-model.ensures.judged

-- row 17 is asked of the file
asked : (c : After-weight_elsewhere) → let s = c.args.file.now in c.weight_elsewhere.result ≡ any_above 0 (state_count s - 1) (λ i. weight_field s (i + 1))
asked c = rw c.in_ok-model.ensures.same at c.weight_elsewhere.ensures

states_read : (c : After-state_count) → c.state_count.result ≡ state_count c.args.file.now
states_read c = c.state_count.ensures ∙ ap state_count (c.model.view_is ∙ c.in_ok-model.ensures.same)

pub returns-in_err-model : goal.returns-in_err-model
returns-in_err-model c =
    let s = c.args.file.now in
    let lent = length c.args.out.now in
    let is = err_from_is_err_and c.from_residual.result c.from_residual.ensures.1 in
    let answer = refused_back s lent _ (sym c.in_err-model.ensures.judged) in
    record { answer = rw (is.1, is.2, answer); bytes = rw answer; moved = answer_back s (λ i. omega (arith, c.type_inv.file i)) lent }

pub returns-then-weight_elsewhere : goal.returns-then-weight_elsewhere
returns-then-weight_elsewhere c =
    let s = c.args.file.now in
    let lent = length c.args.out.now in
    let elsewhere = sym (asked (goal.at.returns-then-weight_elsewhere c).After-weight_elsewhere) ∙ c.if-weight_elsewhere.true in
    let answer = weighed_elsewhere s lent (passed (goal.at.returns-then-weight_elsewhere c).In_ok-model) elsewhere in
    record { answer = rw answer refl; bytes = rw answer refl; moved = answer_back s (λ i. omega (arith, c.type_inv.file i)) lent }

pub returns-then-out-file : goal.returns-then-out-file
returns-then-out-file c =
    let s = c.args.file.now in
    let lent = length c.args.out.now in
    let at_first = sym (asked (goal.at.returns-then-out-file c).After-weight_elsewhere) ∙ c.if-weight_elsewhere.false in
    let states = states_read (goal.at.returns-then-out-file c).After-state_count in
    let answer = no_room_back s (λ i. omega (arith, c.type_inv.file i)) lent (passed (goal.at.returns-then-out-file c).In_ok-model) at_first (omega (arith, states)) in
    record { answer = rw answer; bytes = rw answer; moved = answer_back s (λ i. omega (arith, c.type_inv.file i)) lent }

pub returns : goal.returns
returns c =
    let s = c.args.file.now in
    let lent = length c.args.out.now in
    let at_first = sym (asked (goal.at.returns c).After-weight_elsewhere) ∙ c.if-weight_elsewhere.false in
    let states = states_read (goal.at.returns c).After-state_count in
    let written = rw c.in_ok-model.ensures.same at c.put_version_1.ensures in
    let answer = written_back s (λ i. omega (arith, c.type_inv.file i)) lent (passed (goal.at.returns c).In_ok-model) at_first (omega (arith, states)) in
    record { answer = rw answer (ap accepted written.counted); bytes = rw answer written.bytes; moved = answer_back s (λ i. omega (arith, c.type_inv.file i)) lent }
