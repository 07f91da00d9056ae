pub mod Walks
pub mod Reasons
pub mod Enough
pub mod Demand3
pub mod Twin
