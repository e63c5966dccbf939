pub mod States
pub mod Runs
pub mod Same
pub mod inner
