-- Lengths and the pattern
pub mod FirstTests
-- What an operator that was read needs to be applied
pub mod Shapes
-- The answers of a call with one operator
pub mod Answers
-- The run of a script, and the answers of a call with one
pub mod Runs
pub mod ScriptAnswers
mod Listed
-- The Euler number
mod EulerAnswers
-- The coefficients of a chain
mod Coefficients
-- The boundary of a chain: products of a matrix and a chain, the count and the matrix of a dimension, and the answers
mod Products
mod Dimensions
mod Boundaries
-- A chain carried: the numbers of a trial, what is written, and the answers
mod Trials
mod Rewritings
mod Carried
mod CarryAnswers
pub mod Copying
