pub mod Files
pub mod Replay
pub mod Parts
pub mod inner
pub mod laws
