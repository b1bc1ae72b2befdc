pub mod Accepted
pub mod Answers
pub mod FewTerms
pub mod Halving
pub mod Handed
pub mod OverTree
pub mod Trees
pub mod OneBand
