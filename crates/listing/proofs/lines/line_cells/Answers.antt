-- `listing::lines::line_cells` meets its contract: four numbers and the line's end are put one after the other.
use native.Mathlib.Omega.{arith}
use Rattle.maths.proofs.Buffers.{two_pieces}
use Rattle.listing.specs.Lines.{cells_line}
use Rattle.listing.proofs.lines.line_cells.Goals as goal

pub returns : goal.returns
unfolding cells_line
returns c = rw (← c.into.ensures, ← c.into-2.ensures, ← c.into-3.ensures, ← c.into-4.ensures)
    let last = two_pieces c.put_labelled-next-3.ensures.put (two_pieces c.put_labelled-next-4.ensures.put c.put.ensures) in
    record { put = two_pieces c.put_labelled-next.ensures.put (two_pieces c.put_labelled-next-2.ensures.put last); most = omega arith }
