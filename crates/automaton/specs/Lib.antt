pub mod Machines
pub mod Lawful
pub mod inner
