-- `weight_elsewhere` meets its contract. Assumes nothing.
use Rattle.std.specs.Prelude.{◌≡◌, ◌<◌, ◌≤◌}
use Rattle.std.proofs.Common.{◌∙◌, ap, rules, arith, tests}
use Rattle.std.proofs.lemmas.Iterator.{cases_from_any, YieldsList-from_slice}
use Rattle.std.specs.List.{between}
use Rattle.definitions.specs.File.{state_count, weight_field}
use Rattle.convert.proofs.Others.{some_other}
use Rattle.convert.proofs.weight_elsewhere.Goals as goal

pub returns : goal.returns
returns c =
    let s = c.args.file.now in
    let states : c.state_count.result ≡ state_count s = c.state_count.ensures ∙ ap state_count c.file.view_is in
    let any = cases_from_any _ _ _ (λ w. 0 < w) (λ w. w ≤ 0) c.any.ensures.ran (YieldsList-from_slice {s = c.iter.result} (between 1 c.state_count.result c.weights-weights.result) c.iter.ensures.rest) (λ x q k. search (rules, tests)) (λ x q k. search (rules, tests)) in
    some_other (state_count s) (weight_field s) (omega (arith, states)) c.any.result (rw (states, c.weights-weights.ensures.value) at any)
