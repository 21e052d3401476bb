-- The lemmas that several proofs of the reader share.
pub mod Arrays
