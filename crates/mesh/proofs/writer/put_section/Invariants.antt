-- `mesh::writer::put_section` meets its contract: the count is put, and then the cells below j.
use Prim.Native.Nat.{◌-◌}
use Rattle.rules.specs.Mesh.{write_cell}
use Rattle.maths.specs.Tables.{column}
use Rattle.maths.proofs.Buffers.{Pieces}
use Rattle.mesh.proofs.writer.put_section.Given as goal

abbrev pub invariant-loop-j : goal.invariant-loop-j
invariant-loop-j l = Pieces (λ j. write_cell l.k (column l.m j)) l.n l.j l.initial.out l.initial.next l.next l.out

abbrev pub decreases-loop-j : goal.decreases-loop-j
decreases-loop-j l = l.n - l.j
