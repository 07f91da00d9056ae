pub mod Stretches
pub mod Types
