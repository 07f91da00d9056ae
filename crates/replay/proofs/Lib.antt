pub mod Round
pub mod Along
pub mod Promises
pub mod Unseen
pub mod Examples
pub mod Within
pub mod Shows
pub mod Playing
