pub mod Stored
pub mod FiveTests
pub mod Tested
