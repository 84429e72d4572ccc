-- `mesh::writer::put_pairs` meets its contract: the faces below i are put.
use Rattle.maths.specs.Tables.{entries}
use Rattle.maths.proofs.Buffers.{Pieces}
use Rattle.rules.specs.Mesh.{pair, one_face}
use Rattle.mesh.proofs.writer.put_pairs.Given as goal

abbrev pub invariant-loop-i : goal.invariant-loop-i
invariant-loop-i l = Pieces (λ i. one_face pair i (entries l.m i l.j)) 96 l.i l.initial.out l.at l.next l.out
