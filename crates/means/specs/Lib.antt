-- What the functions of means cite, and their laws.
pub mod Running
pub mod RunningLaws
pub mod Solving
pub mod SolvingLaws
