pub mod Beginning
pub mod Goings
