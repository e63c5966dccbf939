pub mod Memory
pub mod Promises
pub mod Started
pub mod Builders
