-- What several proofs of the means rest on.
mod Parts
