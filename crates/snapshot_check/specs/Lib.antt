pub mod Takes
pub mod Gathered
pub mod Showing
pub mod Judged
