pub mod Inner
pub mod States
pub mod Fields
