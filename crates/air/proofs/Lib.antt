pub mod Answers
pub mod Entries
pub mod FactoryTable
pub mod LowestStep
pub mod Roots
pub mod Searching
