pub mod Longest
pub mod Identical
pub mod Texts
pub mod Packing
pub mod Records
