pub mod Seen
pub mod Sound
pub mod Played
pub mod Reads
pub mod Live
