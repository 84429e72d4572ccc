pub mod Eulers
pub mod Steps
pub mod Runs
pub mod CarriedRuns
