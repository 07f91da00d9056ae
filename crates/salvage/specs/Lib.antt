pub mod Salvage
pub mod Walks
