pub mod Fields
pub mod Compared
pub mod Promise
pub mod Turns
