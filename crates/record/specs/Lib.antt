pub mod Into
pub mod Same
pub mod Lent
pub mod Flag
