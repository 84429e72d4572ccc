pub mod Patterns
pub mod Counted
pub mod Forms
pub mod Answered
