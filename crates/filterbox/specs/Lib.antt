pub mod Numbers
pub mod Tight
