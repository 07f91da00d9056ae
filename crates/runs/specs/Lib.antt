pub mod Cutting
pub mod Scratches
pub mod Enough
