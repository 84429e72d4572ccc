-- `off::places::put_spaced` meets its contract: the corners so far are put.
use native.Mathlib.Omega.{arith}
use Rattle.maths.proofs.Buffers.{two_pieces, pieces_none, pieces_fit, pieces_more}
use Rattle.off.proofs.lengths.RingLine.{byte_low}
use Rattle.off.proofs.places.put_spaced.Goals as goal

pub loop-c-init : goal.loop-c-init
loop-c-init c = pieces_none _ _

pub put-blank-requires : goal.put-blank-requires
put-blank-requires c = omega (arith, pieces_fit c.loop-c.invariant c.requires.room (omega arith))

pub put_number-next-requires : goal.put_number-next-requires
put_number-next-requires c =
    let pre = c.requires in
    record {
      small = omega (arith, byte_low pre.corners c.loop-c.c-index (omega arith));
      room = omega (arith, pieces_fit c.loop-c.invariant pre.room (omega arith), c.put-blank.ensures.place, c.put-blank.ensures.size);
    }

pub loop-c-preserved : goal.loop-c-preserved
loop-c-preserved c = pieces_more c.loop-c.invariant (omega arith) (two_pieces c.put-blank.ensures c.put_number-next.ensures)
