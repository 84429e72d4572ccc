-- `listing::lines::line_cell` meets its contract: the letter, the number, the faces and the line's end are put one after the other.
use native.Mathlib.Omega.{arith}
use Rattle.maths.proofs.Buffers.{two_pieces}
use Rattle.rules.specs.Printed.{cell_line}
use Rattle.listing.proofs.lines.line_cell.Goals as goal

pub returns : goal.returns
unfolding cell_line
returns c =
    let number = rw c.into.ensures at c.put_labelled-next.ensures.put in
    let last = two_pieces c.put_faces-next.ensures.put c.put.ensures in
    record { put = two_pieces c.put-next.ensures (two_pieces number last); most = omega arith }
