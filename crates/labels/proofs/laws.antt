pub mod Courses
pub mod Truths
pub mod Turns
