pub mod Line
pub mod Shape
pub mod Shown
pub mod TextLaws
