pub mod Index
pub mod Wanted
pub mod Search
