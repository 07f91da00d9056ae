pub mod Fairness
pub mod Promise
pub mod Numbers
pub mod Examples
pub mod EventPromise
