pub mod WordsRead
pub mod PlainRead
pub mod TextSays
pub mod OffLaws
pub mod OffCalls
pub mod OffCases
pub mod OneOutcome
