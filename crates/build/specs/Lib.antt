pub mod Building
pub mod LeastBand
pub mod Inner
