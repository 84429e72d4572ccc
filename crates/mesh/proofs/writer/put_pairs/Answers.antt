-- `mesh::writer::put_pairs` meets its contract: the faces below i are put.
use native.Mathlib.Omega.{arith}
use borrow.Author.Rules.{rules}
use Rattle.maths.specs.Tables.{column}
use Rattle.maths.proofs.Buffers.{pieces_none, pieces_fit, pieces_more, pieces_all}
use Rattle.rules.specs.Mesh.{pair}
use Rattle.rules.proofs.Texts.FaceTexts.{faces_are}
use Rattle.mesh.proofs.CellTexts.{column_entry}
use Rattle.mesh.proofs.writer.put_pairs.Goals as goal

pub put_pair-next-requires : goal.put_pair-next-requires
put_pair-next-requires c =
    let a = c.args in
    rw (column_entry a.m.now c.loop-i.i a.j (omega arith) c.requires.line.inside (search rules))
    (pieces_fit c.loop-i.invariant (rw (faces_are pair (column a.m.now a.j)) c.requires.room) (omega arith))

pub loop-i-preserved : goal.loop-i-preserved
loop-i-preserved c =
    let a = c.args in
    pieces_more c.loop-i.invariant (omega arith)
    (rw (column_entry a.m.now c.loop-i.i a.j (omega arith) c.requires.line.inside (search rules)) at c.put_pair-next.ensures)

pub returns : goal.returns
returns c = rw (← faces_are) (pieces_all c.loop-i.invariant (omega arith))

pub loop-i-init : goal.loop-i-init
loop-i-init c = pieces_none _ _
