pub mod Offers
pub mod Plainly
pub mod Inner
