pub mod Steps
pub mod Items
pub mod Words
