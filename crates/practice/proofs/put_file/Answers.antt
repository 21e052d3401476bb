-- `put_file` meets its contract: the header, the first reward and the later draws are the practice file. Assumes nothing.
use Rattle.std.proofs.Common.{◌*◌, ◌≤◌, refl, ap, rules, mul-le-mul, arith}
use Rattle.definitions.specs.Practice.{next, upper}
use Rattle.laws.specs.PracticeLaws.{first_draw, second_draw, second_step}
use Rattle.writing.specs.Puts.{then}
use Rattle.practice.specs.Texts.{printed_dealt}
use Rattle.practice.proofs.put_file.Goals as goal

pub returns : goal.returns
returns c =
    let args = c.args in
    let seed = args.seed in
    let some : 1 ≤ args.states * args.states = mul-le-mul c.requires.0 c.requires.0 in
    let step = ap next c.draw.ensures.step in
    let second = ap upper step in
    printed_dealt args.states args.highest seed c.requires.0 _ _ _ _ (then (then c.put_header.ensures c.put_big.ensures) c.put_draws.ensures)
    refl
    refl
    refl
    refl
    (omega (arith, first_draw seed))
    refl
    (omega (arith, second, second_draw seed))
    (omega (arith, step, second_step seed))
    (omega arith)
    refl
    (search rules)
