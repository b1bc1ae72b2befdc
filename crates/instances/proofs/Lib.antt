pub mod Rows
pub mod Hold
