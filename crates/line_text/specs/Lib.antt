pub mod Starts
pub mod Size
pub mod Ending
