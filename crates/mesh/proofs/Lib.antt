-- No refusal has the number 0
pub mod Numbers
-- Parts of the reading, and the whole
pub mod Parts
pub mod Wholes
-- The texts of cells and sections, and the writer's answers
mod CellTexts
mod Sections
mod Answers
