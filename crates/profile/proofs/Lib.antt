pub mod Accepted
pub mod Checks
pub mod Decided
pub mod Fields
pub mod Lines
pub mod Slots
pub mod Texts
