pub mod Among
pub mod Bands
pub mod Lent
pub mod Put
pub mod Right
pub mod Same
