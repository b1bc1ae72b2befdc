pub mod Beyond
pub mod Laying
pub mod Lowest
pub mod Parts
pub mod Refusals
pub mod Shifting
pub mod Signed
pub mod Tests
