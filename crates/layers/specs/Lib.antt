pub mod Unplaced
pub mod Building
pub mod Shelf
pub mod Reading
pub mod Events
