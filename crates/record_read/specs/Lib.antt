pub mod Inner
pub mod Reading
