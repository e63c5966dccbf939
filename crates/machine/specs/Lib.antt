pub mod Box
pub mod Cases
pub mod inner
