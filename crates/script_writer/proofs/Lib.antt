pub mod Depths
pub mod Again
