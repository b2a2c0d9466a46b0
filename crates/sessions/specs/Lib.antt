pub mod Gathered
pub mod Laws
pub mod Running
pub mod Rules
pub mod Reading
pub mod Holding
pub mod Seats
