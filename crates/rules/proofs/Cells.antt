pub mod Columns
pub mod MakeCells
pub mod KillCells
pub mod SplitCells
pub mod MergeCells
pub mod FlipCells
