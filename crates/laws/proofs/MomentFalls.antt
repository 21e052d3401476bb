-- Document 02, S-9: the moment for r + 1 is at most that for r. Of every model, at every level.
use Rattle.std.specs.Prelude.{ℕ, suc, ◌≤◌, ◌<◌}
use Rattle.std.proofs.Common.{arith}
use Rattle.definitions.specs.Chain.{Model, jump_millionths, chain_of}
use Rattle.definitions.specs.Vectors.{U}
use Rattle.definitions.specs.Moment.{moment}
use Rattle.laws.proofs.VectorLaws.{U_falls}
use Rattle.laws.proofs.Acceptance.{stochastic}
use Rattle.laws.specs.MomentLaws.{weighted_mean_mono}

-- from each state, whatever the level
pub moment_falls : (m : Model) (N r i : ℕ) → i < m.states → moment m N (suc r) i ≤ moment m N r i
unfolding moment
moment_falls m N r i l =
    let u : ℕ → ℕ → ℕ = λ r n. U (chain_of m) n r i in
    omega (arith, weighted_mean_mono (jump_millionths m) N (u (suc r)) (u r) (λ n h. U_falls (chain_of m) (stochastic m) n r i l))
