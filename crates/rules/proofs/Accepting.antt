pub mod Sides
pub mod Passed
pub mod Allowed
pub mod Shared
pub mod Accepted
