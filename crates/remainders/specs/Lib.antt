-- What the contract of an inner function cites.
pub mod Asked
