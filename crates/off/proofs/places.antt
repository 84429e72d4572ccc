pub mod TextParts
pub mod Numbers
