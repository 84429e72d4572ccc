-- make
pub mod Column
pub mod Boundary
pub mod Append
-- flip, kill and merge
pub mod Cells
pub mod Joins
-- split
pub mod Part
pub mod Split
