pub mod SameWays
pub mod SameEnds
pub mod EndsFound
pub mod FrontAll
