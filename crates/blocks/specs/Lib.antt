pub mod Seen
pub mod Steady
pub mod Blocks
pub mod Scan
pub mod ScanLaws
