pub mod Carrying
pub mod Lists
pub mod MetPlaced
pub mod Places
pub mod Reaching
pub mod Records
pub mod Visited
pub mod Telling
