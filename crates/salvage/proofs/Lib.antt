pub mod Steps
pub mod Holes
pub mod Cover
pub mod Promises
pub mod Turns
