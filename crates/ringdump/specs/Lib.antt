pub mod Image
pub mod Enough
pub mod Text
