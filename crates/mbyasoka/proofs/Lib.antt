-- The places of the calls
pub mod Places
