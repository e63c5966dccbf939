pub mod Gateway
pub mod Events
