-- `vectors::reward_share` meets its contract. Assumes nothing.
use Rattle.vectors.proofs.reward_share.Goals as goal

pub returns : goal.returns
returns c = c.divide.ensures
