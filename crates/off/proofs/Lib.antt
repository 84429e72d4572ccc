-- Lists by their elements, walks that follow a ring, and the rings of panels
pub mod Rounds
-- Reading undoes writing, and the laws of the two calls
pub mod Laws
