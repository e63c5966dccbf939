pub mod Faults
pub mod Items
pub mod Walking
pub mod Accepted
pub mod Ranking
pub mod Columns
pub mod Topmost
pub mod Moved
