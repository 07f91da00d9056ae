pub mod Goings
pub mod Stops
pub mod Chains
pub mod Steps
pub mod GoesOn
pub mod Anywhere
pub mod Examples
