pub mod AllLevels
pub mod Chosen
pub mod Levels
pub mod Siblings
pub mod Stretches
pub mod Traced
pub mod Walked
