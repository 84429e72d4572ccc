-- Sequences, layers and columns, and what their tests say
pub mod Layers
-- Branches of the definitions, the numbers of refusals, and the tests that come first
pub mod Branches
-- What bytes in form say
pub mod Bytes
-- Stored and abstract agree
pub mod Storage
-- From an accepted operator to what it needs
pub mod Accepting
-- Each operator: the layers still fit, and chains are carried; merge undoes split
pub mod Edits
-- Each operator: every column is still one of its dimension, so good is kept
pub mod Cells
-- All operators, and scripts: good is kept, the Euler number moves by the table, chains are carried
pub mod Scripts
-- Reading and writing undo each other
pub mod Texts
-- The calls that users see: limits, refusals, outcomes, and the demands
pub mod Calls
-- The table of cases
pub mod Cases
