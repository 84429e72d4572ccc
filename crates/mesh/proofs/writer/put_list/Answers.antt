-- `mesh::writer::put_list` meets its contract: the faces are put after the place of the count, which is half of how long they are.
use native.Mathlib.Omega.{arith}
use Rattle.maths.specs.Tables.{column}
use Rattle.maths.proofs.Buffers.{byte_before}
use Rattle.mesh.proofs.CellTexts.{faces_between, faces_most}
use Rattle.mesh.proofs.writer.put_list.Goals as goal

pub overflow_cast-out : goal.overflow_cast-out
overflow_cast-out c =
    let a = c.args in
    let v = column a.m.now a.j in
    omega (arith, faces_between v a.at c.put_pairs-next.ensures.place, faces_most v)

pub returns : goal.returns
returns c =
    let a = c.args in
    let v = column a.m.now a.j in
    rw (← faces_between v a.at c.put_pairs-next.ensures.place) (byte_before _ (omega arith) c.put_pairs-next.ensures)
