-- `mesh::writer::cell_length` meets its contract: a column has at most 96 faces.
use native.Mathlib.Omega.{arith}
use Rattle.maths.specs.Tables.{column}
use Rattle.mesh.proofs.CellTexts.{faces_most}
use Rattle.mesh.proofs.writer.cell_length.Goals as goal

pub overflow_mul-result : goal.overflow_mul-result
overflow_mul-result c = omega (arith, c.column_count.ensures, faces_most (column c.args.m.now c.args.j))

pub overflow_add-result : goal.overflow_add-result
overflow_add-result c = omega (arith, c.column_count.ensures, faces_most (column c.args.m.now c.args.j))
