pub mod Least
pub mod Layout
pub mod Changes
pub mod Agreeing
