pub mod Inner
pub mod Results
