pub mod Lamp
pub mod inner
