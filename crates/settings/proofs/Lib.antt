pub mod Turns
pub mod Back
pub mod Only
pub mod Promises
pub mod Steps
pub mod Puts
