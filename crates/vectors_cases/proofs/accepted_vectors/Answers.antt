-- The arrays that are read of an accepted file are ready for the steps.
use Rattle.definitions.specs.Chain.{model_of}
use Rattle.vectors.specs.ModelLaws.{held_ready}
use Rattle.vectors_cases.proofs.accepted_vectors.Goals as goal

pub invariant_of-chain : goal.invariant_of-chain
invariant_of-chain c =
    let m = model_of c.args.file.now in
    let given = c.requires.0.model in
    record {
      ready = held_ready m m.time (record { sizes = c.sizes-sizes.ensures; rows = c.list_rows.ensures.held; rewards = c.rewards-rewards.ensures }) given.limits;
    }
