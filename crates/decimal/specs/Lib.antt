pub mod Number
pub mod Written
pub mod Answers
pub mod Inner
