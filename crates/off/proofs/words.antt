pub mod Texts
pub mod Numbers
