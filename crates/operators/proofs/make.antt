pub mod Bytes
pub mod Columns
pub mod Closing
pub mod Made
