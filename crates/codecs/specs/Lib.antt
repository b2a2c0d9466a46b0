pub mod Decoding
pub mod Partway
pub mod Saving
