-- What the inner functions of moments cite, and their laws.
pub mod Filling
pub mod FillingLaws
