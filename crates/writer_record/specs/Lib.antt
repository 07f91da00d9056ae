pub mod Measures
pub mod Measuring
pub mod Records
pub mod Spare
