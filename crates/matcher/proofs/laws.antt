pub mod Marks
pub mod Walks
