-- `off::places::put_corners` meets its contract: the lines of the corners so far are put.
use mathlib.Core.Path.{◌≡◌}
use Prim.Native.Nat.{◌<◌}
use native.Mathlib.Omega.{arith}
use lib.ListN.{length, take}
use lib.Seq.{get_or-take, length-take-le}
use Rattle.maths.proofs.Buffers.{pieces_none, pieces_fit, pieces_more}
use Rattle.off.proofs.writer.Nearness.{line-is, near-at, corner-at}
use Rattle.off.proofs.places.put_corners.Goals as goal
use Rattle.off.proofs.places.put_corners.Goals.{After-as_chunks}

-- there are as many corners
long : (c : After-as_chunks) → length (take c.args.n c.as_chunks.result.0.now) ≡ c.args.n
long c =
    let pre = c.requires.corners in
    length-take-le c.args.n c.as_chunks.result.0.now (omega (arith, c.as_chunks.ensures.front_len, pre.size, pre.few))

pub loop-corner-init : goal.loop-corner-init
loop-corner-init c = pieces_none _ _

pub put_corner-next-requires : goal.put_corner-next-requires
put_corner-next-requires c =
    let pre = c.requires in
    let i = c.loop-corner.corner-index in
    let below : i < c.args.n = omega (arith, long (goal.at.put_corner-next-requires c).After-as_chunks) in
    rw (get_or-take c.args.n c.as_chunks.result.0.now i _ below, corner-at pre.corners c.as_chunks.ensures.front i _ below)
    (record { near = near-at pre.corners i below; room = rw (line-is c.args.list.now i) (pieces_fit c.loop-corner.invariant pre.room below) })

pub loop-corner-preserved : goal.loop-corner-preserved
loop-corner-preserved c =
    let i = c.loop-corner.corner-index in
    let below : i < c.args.n = omega (arith, long (goal.at.loop-corner-preserved c).After-as_chunks) in
    pieces_more c.loop-corner.invariant below
    (rw (get_or-take c.args.n c.as_chunks.result.0.now i _ below, corner-at c.requires.corners c.as_chunks.ensures.front i _ below, line-is c.args.list.now i) at
    c.put_corner-next.ensures)
