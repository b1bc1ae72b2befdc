pub mod Windows
pub mod Scratch
