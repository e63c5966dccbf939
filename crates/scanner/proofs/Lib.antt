pub mod Scanning
pub mod Tops
pub mod laws
