pub mod Rows
pub mod MergeLaws
