pub mod Tested
pub mod Columns
pub mod Parts
