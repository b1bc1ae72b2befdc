pub mod Checking
pub mod Inner
