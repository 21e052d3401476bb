-- `put_version_2` meets its contract: three texts, one after the other, are the moved file. Assumes nothing.
use Rattle.std.proofs.Common.{◌≡◌, ◌∙◌, ap, ℕ, List, ◌-◌, ◌<◌, length, get_or, drop, length-drop, length-take, refl, rules, arith}
use Rattle.definitions.specs.File.{length_field, state_count}
use Rattle.laws.specs.ByteLaws.{big_below}
use Rattle.writing.specs.Puts.{then}
use Rattle.convert.specs.Texts.{printed_there}
use Rattle.convert.proofs.put_version_2.Goals as goal
use Rattle.convert.proofs.put_version_2.Goals.{After-length_field}

bytes : (c : After-length_field) (i : ℕ) → get_or c.args.file.now i 0 < 256
bytes c i = omega (arith, rw c.bytes-bytes.ensures.same at (c.type_inv.bytes i))

length_read : (c : After-length_field) → c.length_field.result ≡ length_field c.args.file.now
length_read c = c.length_field.ensures ∙ ap length_field c.file.view_is

states_read : (c : After-length_field) → c.state_count-states.result ≡ state_count c.args.file.now
states_read c = c.state_count-states.ensures ∙ ap state_count c.file.view_is

pub overflow_add-later : goal.overflow_add-later
overflow_add-later c = let short : length_field c.args.file.now < 65536 = big_below 2 0 c.args.file.now (bytes c) in omega (arith, length_read c)

pub returns : goal.returns
returns c =
    let read = (goal.at.returns c).After-length_field in
    let s : List ℕ = c.args.file.now in
    let put = rw c.bytes-bytes.ensures.same at (then (then c.put_header.ensures c.put_weights.ensures) c.put_word.ensures) in
    printed_there s (bytes read) c.requires.file_value _ _ _ _ put
    (omega (arith, length_read read, states_read read))
    refl
    (states_read read)
    refl
    (omega (arith, c.requires.file_in_bounds, states_read read, length-take (length s - 13) (drop 13 s), length-drop 13 s))
    refl
    (search rules)
