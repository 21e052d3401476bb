pub mod Held
pub mod ReportLaws
