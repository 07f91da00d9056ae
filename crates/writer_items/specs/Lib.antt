pub mod Tries
pub mod Fitting
pub mod Header
