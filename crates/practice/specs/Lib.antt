pub mod Steps
pub mod Texts
