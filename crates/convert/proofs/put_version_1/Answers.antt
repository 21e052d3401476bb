-- `put_version_1` meets its contract: two texts, one after the other, are the moved file. Assumes nothing.
use Rattle.std.proofs.Common.{◌≡◌, ◌∙◌, ap, ℕ, List, ◌+◌, ◌*◌, ◌-◌, ◌<◌, length, get_or, drop, length-drop, length-take, refl, rules, arith}
use Rattle.definitions.specs.File.{length_field, state_count}
use Rattle.laws.specs.Acceptance.{accepted_model}
use Rattle.laws.specs.ConvertLaws.{size_2}
use Rattle.writing.specs.Puts.{then}
use Rattle.convert.specs.Texts.{printed_back}
use Rattle.convert.proofs.put_version_1.Goals as goal
use Rattle.convert.proofs.put_version_1.Goals.{After-length_field}

bytes : (c : After-length_field) (i : ℕ) → get_or c.args.file.now i 0 < 256
bytes c i = omega (arith, rw c.bytes-bytes.ensures.same at (c.type_inv.bytes i))

length_read : (c : After-length_field) → c.length_field.result ≡ length_field c.args.file.now
length_read c = c.length_field.ensures ∙ ap length_field c.file.view_is

states_read : (c : After-length_field) → c.state_count-states.result ≡ state_count c.args.file.now
states_read c = c.state_count-states.ensures ∙ ap state_count c.file.view_is

-- how long the file is
size : (c : After-length_field) → let s : List ℕ = c.args.file.now in length s ≡ 4 * (state_count s * state_count s) + 4 * state_count s + 13
size c = size_2 c.args.file.now (bytes c) c.requires.file_value

pub overflow_sub-later : goal.overflow_sub-later
overflow_sub-later c = omega (arith, length_read c, states_read c, size c, (accepted_model 2 2 c.args.file.now c.requires.file_value).counted)

pub returns : goal.returns
returns c =
    let read = (goal.at.returns c).After-length_field in
    let s : List ℕ = c.args.file.now in
    let start : ℕ = 13 + 4 * c.state_count-states.result in
    let put = rw c.bytes-bytes.ensures.same at (then c.put_header.ensures c.put_word.ensures) in
    printed_back s (bytes read) c.requires.file_value _ _ _ put
    (omega (arith, length_read read, states_read read))
    refl
    (omega (arith, states_read read))
    (omega (arith, c.requires.file_in_bounds, size read, states_read read, length-take (length s - start) (drop start s), length-drop start s))
    refl
    (search rules)
