pub mod Answers
pub mod Pairs
pub mod Sorts
