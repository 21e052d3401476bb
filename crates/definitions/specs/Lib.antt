-- Document 01, with requests S-1 (the last rounding), S-3 (several times), S-4 (remainders), S-5 (starting distributions), S-6 (practice
-- files), S-7 (sums over the arrows), S-8 (the count of row means), S-9 (the order of the figures) and S-12 (rates from a log) of document 02, as definitions: a
-- module for each of its sections, in its order. Theorems has what the papers say beside the calls.
-- Numeral and Dealing are of no paper: they say how the program that deals practice files reads its arguments, and what it answers.
-- The paper counts states from 1. Here states and cells are counted from 0: the paper's state i is i − 1 here. Moments r are counted from 1 in both.
pub mod Sums
pub mod Division
pub mod Bytes
pub mod File
pub mod Chain
pub mod Refusal
pub mod Rules
pub mod Vectors
pub mod Weights
pub mod Level
pub mod Moment
pub mod Fraction
pub mod Average
pub mod Promise
pub mod Series
pub mod Order
pub mod Remainders
pub mod Written
pub mod Fields
pub mod Convert
pub mod Practice
pub mod Arrows
pub mod Stays
pub mod Log
pub mod Numeral
pub mod Dealing
pub mod Sheet
pub mod Theorems
pub mod HandChecked
pub mod StartChecked
pub mod OrderChecked
pub mod PracticeChecked
pub mod DealingChecked
pub mod ArrowsChecked
pub mod StaysChecked
pub mod SheetChecked
