-- `off::places::put_rings` meets its contract: the lines of the panels below j are put.
use native.Mathlib.Omega.{arith}
use Rattle.maths.proofs.Buffers.{pieces_none, pieces_fit, pieces_more, pieces_all}
use Rattle.off.specs.Walking.{ring_lines}
use Rattle.off.proofs.places.put_rings.Goals as goal

pub loop-j-init : goal.loop-j-init
loop-j-init c = pieces_none _ _

pub put_panel-next-requires : goal.put_panel-next-requires
unfolding ring_lines
put_panel-next-requires c =
    let pre = c.requires in
    record {
      panel = record { line = record { size = pre.there.columns.size; inside = omega (arith, pre.there.columns.few) }; seams = pre.there.seams };
      closes = pre.close c.loop-j.j (omega arith);
      room = pieces_fit c.loop-j.invariant pre.room (omega arith);
    }

pub loop-j-preserved : goal.loop-j-preserved
loop-j-preserved c = pieces_more c.loop-j.invariant (omega arith) c.put_panel-next.ensures

pub returns : goal.returns
unfolding ring_lines
returns c = pieces_all c.loop-j.invariant (omega arith)
