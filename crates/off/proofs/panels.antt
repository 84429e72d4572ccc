pub mod NextSewing
pub mod PanelsGoing
