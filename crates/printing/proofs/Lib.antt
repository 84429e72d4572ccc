-- What a run answers, and how large its numbers are
mod Running
mod Sizes
mod Rooms
-- The three pieces are the printed result
pub mod InPieces
