pub mod Lists
pub mod Members
pub mod Again
pub mod Sound
pub mod Whole
