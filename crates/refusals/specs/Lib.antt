-- What the contracts cite besides document 01's definitions, and the laws of a list of times.
pub mod Times
pub mod Verdict
