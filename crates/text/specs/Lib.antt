pub mod Text
pub mod laws
pub mod inner
