pub mod Tests
pub mod Places
pub mod Parts
pub mod Passing
pub mod Ranges
