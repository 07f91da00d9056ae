pub mod Writer
pub mod Known
pub mod Answers
