-- `listing::lines::line_seam` meets its contract: the tail is the last -1 of the column, the head the last 1, and three numbers and
-- the line's end are put one after the other.
use native.Mathlib.Omega.{arith}
use Rattle.maths.proofs.Buffers.{two_pieces}
use Rattle.rules.specs.Printed.{seam_line}
use Rattle.listing.proofs.Faces.{last_fits}
use Rattle.listing.proofs.lines.line_seam.Goals as goal

pub overflow_cast-tail : goal.overflow_cast-tail
overflow_cast-tail c = last_fits _ c.column_last-tail.ensures

pub overflow_cast-head : goal.overflow_cast-head
overflow_cast-head c = last_fits _ c.column_last-head.ensures

pub returns : goal.returns
unfolding seam_line
returns c =
    let number = rw c.into.ensures at c.put_labelled-next.ensures.put in
    let last = two_pieces c.put_labelled-next-3.ensures.put c.put.ensures in
    record {
      put =
          rw (← c.column_last-tail.ensures, ← c.column_last-head.ensures)
          (two_pieces number (two_pieces c.put_labelled-next-2.ensures.put last));
      most = omega arith;
    }
