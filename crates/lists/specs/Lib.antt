pub mod Filters
pub mod Words
pub mod Refusals
pub mod Ranks
pub mod Columns
pub mod Walk
pub mod inner
pub mod laws
