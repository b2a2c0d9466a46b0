pub mod Fronts
pub mod Spelled
pub mod Steps
pub mod Read
pub mod Sending
pub mod Again
pub mod Worked
