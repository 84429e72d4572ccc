-- `mesh::writer::put_seam` meets its contract: the tail is the last -1 of the column, and the head the last 1.
use native.Mathlib.Omega.{arith}
use lib.IntN.{pos, negsuc}
use Rattle.maths.specs.Tables.{column}
use Rattle.mesh.proofs.CellTexts.{face_most}
use Rattle.mesh.proofs.writer.put_seam.Goals as goal

pub overflow_cast-tail : goal.overflow_cast-tail
overflow_cast-tail c =
    omega (arith, c.column_last-tail.ensures, face_most (negsuc 0) (column c.args.m.now c.args.j))

pub overflow_cast-head : goal.overflow_cast-head
overflow_cast-head c =
    omega (arith, c.column_last-head.ensures, face_most (pos 1) (column c.args.m.now c.args.j))
