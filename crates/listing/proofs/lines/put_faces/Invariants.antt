-- `listing::lines::put_faces` meets its contract: the faces below i are put, each in at most four bytes.
use Rattle.maths.specs.Tables.{entries}
use Rattle.maths.proofs.Buffers.{Pieces}
use Rattle.rules.specs.Printed.{signed_face}
use Rattle.rules.specs.Mesh.{one_face}
use Rattle.listing.proofs.lines.put_faces.Given as goal

abbrev pub invariant-loop-i : goal.invariant-loop-i
invariant-loop-i l = Pieces (λ i. one_face signed_face i (entries l.m i l.j)) 96 l.i l.initial.out l.at l.next l.out
