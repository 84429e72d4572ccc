pub mod Branches
pub mod Numbers
pub mod FirstTests
pub mod Refused
