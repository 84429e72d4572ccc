-- "Numbers given back", by name.
use Rattle.std.specs.Prelude.{ℕ}

abbrev pub accepted : ℕ
accepted = 0

abbrev pub wrong_length : ℕ
wrong_length = 1  -- a matrix is not 9,216 or a chain not 96 long; a script is over 24,576 bytes

abbrev pub not_good : ℕ
not_good = 2  -- the lent pattern is not good

abbrev pub bytes_end : ℕ
bytes_end = 3  -- the bytes end inside a field

abbrev pub wrong_form : ℕ
wrong_form = 4  -- a field is not what its form allows, or a chain dimension is not offered

abbrev pub no_such_cell : ℕ
no_such_cell = 5  -- a number is not below its count

abbrev pub no_room : ℕ
no_room = 6  -- a count that must grow is 96

abbrev pub not_closed : ℕ
not_closed = 7  -- make: tail equal to head; no faces, or faces whose boundary is not zero

abbrev pub in_use : ℕ
in_use = 8  -- kill: the cell's row above is not zero

abbrev pub wrong_part : ℕ
wrong_part = 9  -- split: not at least one face, or all, or one with a zero entry

abbrev pub wrong_divider : ℕ
wrong_divider = 10  -- split: the dividing cell's boundary is none of a seam or of a panel

abbrev pub not_between : ℕ
not_between = 11  -- merge: not exactly two non-zero entries of opposite sign

abbrev pub wrong_sum : ℕ
wrong_sum = 12  -- merge: the sum leaves -1 to 1, or is all 0; no call ever answers it

abbrev pub stale : ℕ
stale = 13  -- base counts differ from the pattern's

abbrev pub bytes_left : ℕ
bytes_left = 14  -- bytes follow the last operator

abbrev pub short_output : ℕ
short_output = 15  -- the mesh writer's output buffer is too short

abbrev pub wrong_chain : ℕ
wrong_chain = 16  -- a coefficient is out of limits, or not 0 at or past the count

abbrev pub not_carried : ℕ
not_carried = 17  -- kill or merge given to carrying

abbrev pub wrong_off : ℕ
wrong_off = 18  -- an OFF text is not of the plain form, or a coordinate is out of range

abbrev pub not_plain : ℕ
not_plain = 19  -- a pattern that no plain OFF text has: a block, a seam in no panel, two seams with the same two ends, or a panel that is not one ring

abbrev pub shared_face : ℕ
shared_face = 20  -- merge: the two cells share a face besides the named one

-- The place of an answer that is no fault of the form: "the largest unsigned 32-bit number".
abbrev pub no_place : ℕ
no_place = 4_294_967_295
