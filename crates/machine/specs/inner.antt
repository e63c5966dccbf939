pub mod Remaining
pub mod Slots
pub mod Good
pub mod Placed
