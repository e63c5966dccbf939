pub mod Counting
pub mod Fitting
pub mod Reading
pub mod Written
