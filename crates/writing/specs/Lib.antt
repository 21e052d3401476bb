pub mod Header
pub mod Printed
pub mod Puts
pub mod TextLaws
