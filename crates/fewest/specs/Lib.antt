pub mod Node
pub mod Tree
pub mod Cost
pub mod Walk
pub mod Terms
pub mod Row
