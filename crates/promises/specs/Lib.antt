pub mod Examples
pub mod Checked
pub mod Backward
pub mod ComparedAlike
pub mod EventExactly
pub mod Written
