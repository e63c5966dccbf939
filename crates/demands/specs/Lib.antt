pub mod Settled
pub mod Demands
pub mod Whole
pub mod Tight
pub mod Cases
pub mod Groups
pub mod laws
pub mod inner
