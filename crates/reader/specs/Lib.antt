-- What the reader's contracts cite besides document 01's definitions, and the laws that its callers use.
pub mod Framed
pub mod SizesRead
