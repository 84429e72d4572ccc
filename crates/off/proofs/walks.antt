pub mod Answered
pub mod NextCorners
pub mod Steps
pub mod Walked
pub mod Measuring
pub mod PanelWalk
