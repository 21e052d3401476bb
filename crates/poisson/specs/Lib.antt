-- What poisson's contracts cite besides document 01's definitions.
pub mod Stages
