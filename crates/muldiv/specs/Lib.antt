pub mod MulDiv
pub mod QuotientLaws
