pub mod Best
pub mod First
pub mod LeastBand
pub mod Inner
