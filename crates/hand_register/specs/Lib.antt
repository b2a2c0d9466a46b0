pub mod Register
pub mod Tests
