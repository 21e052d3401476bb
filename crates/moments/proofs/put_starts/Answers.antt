-- Without a starting distribution the cells stay; with one each block gets its figures.
use Rattle.std.proofs.Common.{◌≡◌, ◌∙◌, ap, arith}
use Rattle.definitions.specs.File.{distributions}
use Rattle.laws.specs.ChainLaws.{distributions_max}
use Rattle.moments.specs.FillingLaws.{none_started, distribution, all_moments, some_started}
use Rattle.moments.proofs.put_starts.Goals as goal
use Rattle.moments.proofs.put_starts.Goals.{After-weights-weights}

pub returns-then-distributions-eq0 : goal.returns-then-distributions-eq0
returns-then-distributions-eq0 c =
    none_started c.args.file.now c.args.sizes c.args.count c.args.cells.now c.requires (omega (arith, c.distributions.ensures, ap distributions c.file.view_is, c.if-distributions-eq0.true))

-- past the test there is one starting distribution
one : (c : After-weights-weights) → distributions c.args.file.now ≡ 1
one c = omega (arith, c.distributions.ensures, ap distributions c.file.view_is, c.if-distributions-eq0.false, distributions_max c.args.file.now)

pub invariant_of-start : goal.invariant_of-start
invariant_of-start c =
    record { distribution = distribution c.args.file.now c.args.sizes c.args.count c.args.cells.now c.requires (one (goal.at.invariant_of-start c).After-weights-weights) c.weights-weights.result c.weights-weights.ensures.value }

pub put_in_blocks-requires : goal.put_in_blocks-requires
put_in_blocks-requires c =
    all_moments c.args.file.now c.args.sizes c.args.count c.args.cells.now c.requires (one (goal.at.put_in_blocks-requires c).After-weights-weights) c.weights-weights.result c.weights-weights.ensures.value

pub returns : goal.returns
returns c =
    c.put_in_blocks.ensures
    ∙ some_started c.args.file.now c.args.sizes c.args.count c.args.cells.now c.requires (one (goal.at.returns c).After-weights-weights) c.weights-weights.result c.weights-weights.ensures.value
