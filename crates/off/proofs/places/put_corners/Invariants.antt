-- `off::places::put_corners` meets its contract: the lines of the corners so far are put.
use Rattle.maths.proofs.Buffers.{Pieces}
use Rattle.off.specs.Exporting.{corner_line}
use Rattle.off.proofs.places.put_corners.Given as goal

abbrev pub invariant-loop-corner : goal.invariant-loop-corner
invariant-loop-corner l = Pieces (corner_line l.list) l.n l.corner-index l.initial.out l.at l.next l.out
