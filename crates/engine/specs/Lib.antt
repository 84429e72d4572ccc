pub mod Source
pub mod Running
pub mod Boundaries
pub mod Carrying
