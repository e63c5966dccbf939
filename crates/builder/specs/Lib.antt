pub mod Outcome
pub mod Tight
pub mod inner
pub mod laws
