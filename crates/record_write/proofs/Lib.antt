pub mod Entries
pub mod Ready
pub mod Refusals
pub mod Specials
pub mod Terms
pub mod Whole
