-- Stored patterns, their counts, and the answers
pub mod Patterns
