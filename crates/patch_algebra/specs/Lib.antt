pub mod Applying
pub mod Composing
pub mod Merging
