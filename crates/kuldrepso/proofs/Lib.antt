-- Theorems that rest on one that an edit of specs/ makes false.
pub mod PlainLaws
