pub mod Words
pub mod Asking
pub mod laws
pub mod inner
