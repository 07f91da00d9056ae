pub mod Runs
pub mod Entries
pub mod Along
pub mod Crossing
pub mod Forward
pub mod Turns
pub mod Enough
pub mod Streams
