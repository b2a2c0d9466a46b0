pub mod Ending
pub mod History
