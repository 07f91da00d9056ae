pub mod Forms
pub mod One
