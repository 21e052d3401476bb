-- What the reward vectors' contracts cite, and the laws of it that callers use.
pub mod Ready
pub mod Arrows
pub mod Lent
pub mod ReadyLaws
pub mod Divisions
pub mod DivisionLaws
pub mod Table
pub mod StepLaws
pub mod TableLaws
pub mod ModelLaws
