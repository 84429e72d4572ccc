-- `mesh::writer::put_section` meets its contract: the count is put, and then the cells below j.
use native.Mathlib.Omega.{arith}
use Rattle.mesh.specs.Writing.{cell_texts}
use Rattle.maths.proofs.Buffers.{two_pieces, pieces_none, pieces_fit, pieces_more, pieces_all}
use Rattle.mesh.proofs.writer.put_section.Goals as goal

pub put_cell-next-requires : goal.put_cell-next-requires
unfolding cell_texts
put_cell-next-requires c =
    record {
      line = record { size = c.requires.columns.size; inside = omega arith };
      room = pieces_fit c.loop-j.invariant (omega (arith, c.requires.room, c.put-next.ensures.place, c.put-next.ensures.size)) (omega arith);
    }

pub loop-j-preserved : goal.loop-j-preserved
loop-j-preserved c =
    pieces_more c.loop-j.invariant (omega arith) c.put_cell-next.ensures

pub returns : goal.returns
unfolding cell_texts
returns c =
    two_pieces c.put-next.ensures (pieces_all c.loop-j.invariant (omega arith))

pub loop-j-init : goal.loop-j-init
loop-j-init c = pieces_none _ _
