-- `dimension` meets its contract: the number that is said, or 0. Assumes nothing.
use Rattle.std.specs.Prelude.{unwrap_or}
use Rattle.std.proofs.Common.{◌∙◌, ap}
use Rattle.definitions.specs.Dealing.{dimension_in}
use Rattle.deal.proofs.dimension.Goals as goal

pub returns : goal.returns
unfolding dimension_in
returns c = c.unwrap_or.ensures ∙ ap (λ o. unwrap_or o 0) c.number_of.ensures
