-- The decimal text of a number is the one that the rules have
pub mod Decimals
