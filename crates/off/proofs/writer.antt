pub mod Nearness
pub mod TextTaken
pub mod ExportAnswers
