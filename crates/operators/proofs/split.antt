pub mod Edges
pub mod Stores
pub mod Divisions
pub mod SplitLaws
pub mod SplitAnswers
