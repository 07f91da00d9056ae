pub mod Filling
pub mod Readers
