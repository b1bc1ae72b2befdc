pub mod Numbers
pub mod Joined
pub mod Carried
pub mod Moved
pub mod Calls
pub mod Answers
pub mod Accepted
