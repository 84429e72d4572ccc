pub mod Fields
pub mod Faults
pub mod Listed
pub mod Faces
pub mod Decoded
pub mod Alike
pub mod Copied
pub mod Alone
