pub mod Accepted
pub mod Bands
pub mod Rooms
pub mod Specials
pub mod Terms
