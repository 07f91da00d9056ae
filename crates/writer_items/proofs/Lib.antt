pub mod Tests
pub mod Tried
pub mod Puts
