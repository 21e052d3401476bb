-- What the contracts of the arrows cite, and the laws of it that callers use.
pub mod Rows
pub mod RowLaws
