pub mod Tasks
pub mod Entries
