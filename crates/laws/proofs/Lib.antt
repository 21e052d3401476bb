-- Theorems that rest on one that an edit changes: such an edit leaves them unchecked, and specs/ has to be checked whole. A module has the name of that in specs/ with the
-- theorem's other laws; moment_falls, which is edited and rests on others, has one of its own.
pub mod VectorLaws
pub mod ArrowLaws
pub mod Acceptance
pub mod LevelLaws
pub mod VectorError
pub mod WeightError
pub mod AverageBound
pub mod MomentLaws
pub mod Demand3
pub mod MomentFalls
pub mod OrderLaws
pub mod SeriesLaws
pub mod RewardLaws
pub mod SheetLaws
pub mod Proved
