-- What several proofs of the reward vectors rest on.
mod Places
pub mod Filled
