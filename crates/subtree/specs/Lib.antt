pub mod Answer
pub mod Stretch
pub mod Pair
