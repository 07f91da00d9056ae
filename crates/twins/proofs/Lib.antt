mod Laws
pub mod ByType
pub mod Whole
