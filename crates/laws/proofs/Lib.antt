pub mod Framing
pub mod Refused
