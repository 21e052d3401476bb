-- What a record of stays keeps, what is claimed of each call, and that it holds.
pub mod Latest
pub mod Ring
pub mod Inner
pub mod Claims
pub mod LatestLaws
pub mod RingLaws
pub mod ReachedLaws
