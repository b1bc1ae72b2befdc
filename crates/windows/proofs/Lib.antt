pub mod Joining
pub mod Meeting
pub mod Reading
pub mod Sets
pub mod Writing
