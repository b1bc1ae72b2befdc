pub mod Layout
pub mod Record
pub mod Answers
pub mod Inner
