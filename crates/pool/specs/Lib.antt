pub mod Sendings
pub mod Shifts
pub mod Stages
