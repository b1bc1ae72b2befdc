pub mod Numbers
pub mod Bands
pub mod Ends
pub mod Candidates
pub mod Choices
pub mod Winners
pub mod Plainly
