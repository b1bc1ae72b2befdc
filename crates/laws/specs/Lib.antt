pub mod Numbers
pub mod Profiles
pub mod Calls
