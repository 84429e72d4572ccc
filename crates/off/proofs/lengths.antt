pub mod Decimal
pub mod Signs
pub mod LineLengths
pub mod RingLine
