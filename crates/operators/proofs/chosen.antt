pub mod Lists
pub mod Numbers
pub mod Parts
pub mod Choices
pub mod SplitForms
