pub mod Memory
pub mod Finished
pub mod WaysPlaced
pub mod Starting
pub mod Building
