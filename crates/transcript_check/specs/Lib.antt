pub mod Order
pub mod Versions
pub mod Found
