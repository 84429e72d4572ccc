pub mod TextAnswers
pub mod ImportAnswers
pub mod Laid
