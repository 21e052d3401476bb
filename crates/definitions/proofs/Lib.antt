-- The hand checks that rest on other ones: where an edit makes a check false, what rests on it is not checked, and stands here.
pub mod HandChecked
pub mod OrderChecked
pub mod PromiseChecked
