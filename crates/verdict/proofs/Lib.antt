pub mod Compared
pub mod Differences
pub mod Judged
pub mod Verdicts
