pub mod Chains
pub mod Records
