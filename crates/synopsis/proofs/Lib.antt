pub mod Many
pub mod Parting
pub mod Rooms
