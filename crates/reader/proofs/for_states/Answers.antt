-- `reader::for_states` meets its contract: whatever gives what f gives, the states passed have it. Assumes nothing.
use Rattle.std.specs.Prelude.{◌<◌, ◌≡◌, length}
use Rattle.std.proofs.Common.{◌∙◌, sym, arith}
use Rattle.laws.specs.ListLaws.{over_none, over_store}
use Rattle.reader.proofs.Arrays.{fresh, length_fresh, fresh_padded}
use Rattle.reader.proofs.for_states.Goals as goal

pub loop-i-init : goal.loop-i-init
loop-i-init g c v says = sym (over_none v (fresh c.args.states))

pub loop-i-preserved : goal.loop-i-preserved
loop-i-preserved g c v says =
    let now = c.loop-i in
    let state : now.i < c.args.states = omega (arith, c.loop-i-test.true, now.auto.value-items, length_fresh c.args.states c.requires.few) in
    over_store now.i v (fresh c.args.states) now.value-items c.f.result (omega (arith, state, length_fresh c.args.states c.requires.few)) (now.invariant v says) (says now.i c.f.result state c.f.ensures)

pub returns : goal.returns
returns g c v says =
    let now = c.loop-i in
    let long : length now.value-items ≡ c.args.states = now.auto.value-items ∙ length_fresh c.args.states c.requires.few in
    fresh_padded c.args.states now.i v now.value-items c.requires.few (now.invariant v says) (omega (arith, long))
