-- What the exported calls' contracts cite, and their laws.
pub mod Plain
pub mod PlainLaws
