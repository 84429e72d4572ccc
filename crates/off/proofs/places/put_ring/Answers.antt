-- `off::places::put_ring` meets its contract: the count, the corners and the line's end are put one after the other.
use Prim.Native.Nat.{◌+◌, ◌≤◌}
use native.Mathlib.Omega.{arith}
use lib.ListN.{length}
use Rattle.maths.proofs.Buffers.{two_pieces}
use Rattle.off.specs.Writing.{spaced}
use Rattle.off.proofs.lengths.RingLine.{ring-line, ring-line-length}
use Rattle.off.proofs.places.put_ring.Goals as goal
use Rattle.off.proofs.places.put_ring.Goals.{After-put_number-length}

-- the room that is left after the count
after-count : (c : After-put_number-length) → let a = c.args in
    c.put_number-length.result + (length (spaced a.ring.now (length a.ring.now)) + 1) ≤ length c.put_number-length.new.out
after-count c =
    let pre = c.requires in
    omega (arith, ring-line-length c.args.ring.now, pre.room, c.put_number-length.ensures.place, c.put_number-length.ensures.size)

pub put_number-length-requires : goal.put_number-length-requires
put_number-length-requires c =
    let pre = c.requires in
    record { small = omega (arith, pre.corners.few); room = omega (arith, ring-line-length c.args.ring.now, pre.room) }

pub put_spaced-corners-requires : goal.put_spaced-corners-requires
put_spaced-corners-requires c =
    record { corners = c.requires.corners; room = omega (arith, after-count (goal.at.put_spaced-corners-requires c).After-put_number-length) }

pub put-requires : goal.put-requires
put-requires c =
    omega (arith, after-count (goal.at.put-requires c).After-put_number-length, c.put_spaced-corners.ensures.place, c.put_spaced-corners.ensures.size)

pub returns : goal.returns
returns c =
    rw (ring-line c.args.ring.now)
    (two_pieces c.put_number-length.ensures (two_pieces c.put_spaced-corners.ensures c.put.ensures))
