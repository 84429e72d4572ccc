pub mod Changes
pub mod Frame
pub mod Judged
pub mod Seams
