-- `listing::pieces::put_run` meets its contract: three lines and the seams are put one after the other.
use mir.Facts.{to_z-of_z}
use Rattle.maths.proofs.Buffers.{two_pieces}
use Rattle.listing.specs.Pieces.{run_text}
use Rattle.listing.proofs.pieces.put_run.Goals as goal

pub returns : goal.returns
unfolding run_text
returns c =
    let number = rw (to_z-of_z c.ranges.z) at c.line_euler-next.ensures.put in
    let last = two_pieces number c.put_seams.ensures in
    two_pieces c.line_ran-next.ensures.put (two_pieces c.line_cells-next.ensures.put last)
