pub mod Numbers
pub mod Rows
pub mod Compared
pub mod Walks
