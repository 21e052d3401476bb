-- `vectors::shares` meets its contract. Assumes nothing.
use Rattle.std.proofs.Common.{◌≡◌, ◌∙◌, ap, sym, [], ℕ, get_or, length, arith}
use Rattle.definitions.specs.Chain.{Listing, listed, arrays}
use Rattle.definitions.specs.Vectors.{reward_share}
use Rattle.laws.specs.Rounding.{quotient}
use Rattle.laws.specs.ListLaws.{over_none, over_store}
use Rattle.vectors.specs.DivisionLaws.{shares_drop}
use Rattle.vectors.proofs.Filled.{fresh, length_fresh, fresh_padded}
use Rattle.vectors.proofs.shares.Goals as goal
use Rattle.vectors.proofs.shares.Goals.{Start, After-loop-i}

-- W of the arguments, with any chain
abbrev share : Start → Listing → ℕ → ℕ
share start a k = reward_share (arrays start.args.sizes a start.args.rewards.now) (get_or start.args.same k 0) k

pub loop-i-init : goal.loop-i-init
loop-i-init c a = sym (over_none (share (goal.at.loop-i-init c).Start a) (fresh c.args.sizes.states))

pub loop-i-preserved : goal.loop-i-preserved
unfolding reward_share
loop-i-preserved c a =
    over_store c.loop-i.i (share (goal.at.loop-i-preserved c).Start a) (fresh c.args.sizes.states) c.loop-i.entry-items c.reward_share-w.result.quotient (omega (arith, length_fresh c.args.sizes.states)) (c.loop-i.invariant a) (ap quotient c.reward_share-w.ensures)

-- all states are passed at the end
passed : (c : After-loop-i) → c.loop-i.i ≡ c.args.sizes.states
passed c =
    let all : length c.loop-i.entry-items ≡ c.args.sizes.states = c.loop-i.auto.entry-items ∙ length_fresh c.args.sizes.states (omega arith) in
    omega (arith, all)

pub returns-clause-vector : goal.returns-clause-vector
returns-clause-vector c a = fresh_padded c.args.sizes.states c.loop-i.i (share (goal.at.returns-clause-vector c).Start a) c.loop-i.entry-items (omega arith) (c.loop-i.invariant a) (passed (goal.at.returns-clause-vector c).After-loop-i)

pub returns-clause-dropped : goal.returns-clause-dropped
returns-clause-dropped c = shares_drop c.args.same c.requires.0 (fresh_padded c.args.sizes.states c.loop-i.i (share (goal.at.returns-clause-dropped c).Start (listed [] [] [])) c.loop-i.entry-items (omega arith) (c.loop-i.invariant (listed [] [] [])) (passed (goal.at.returns-clause-dropped c).After-loop-i))
