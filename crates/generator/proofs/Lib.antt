pub mod Ranges
pub mod Draws
pub mod Characters
pub mod Within
