pub mod Tree
pub mod Terms
pub mod Restored
pub mod Errors
pub mod Restoring
pub mod Inner
