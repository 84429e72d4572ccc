-- The texts of numbers and of faces
mod Decimals
mod Faces
-- Lines of columns, one after the other
mod Columns
-- The printed result by its lines
pub mod Printed
