-- `off::ends::take_ends` meets its contract: the ends of the seams before j are found, and those of seam j are put in their places.
use native.Mathlib.Omega.{arith}
use Rattle.off.proofs.ends.EndsFound.{end_low}
use Rattle.off.proofs.ends.take_ends.Goals as goal

pub overflow_cast-ends : goal.overflow_cast-ends
overflow_cast-ends c = record { fits = omega (arith, end_low _ c.column_last.ensures) }

pub overflow_cast-ends-in-loop-j : goal.overflow_cast-ends-in-loop-j
overflow_cast-ends-in-loop-j c = record { fits = omega (arith, end_low _ c.column_last-in-loop-j.ensures) }
