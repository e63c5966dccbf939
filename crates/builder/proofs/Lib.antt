pub mod Finding
pub mod Storing
pub mod Meeting
pub mod Following
pub mod Starting
