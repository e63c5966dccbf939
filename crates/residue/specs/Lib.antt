pub mod Tests
pub mod Facts
pub mod Residues
pub mod laws
pub mod inner
