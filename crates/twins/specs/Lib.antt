pub mod Twins
pub mod Same
pub mod Pieces
