-- `put_sides` puts side after side, and the last leaves the chain of them all.
use Rattle.std.proofs.Common.{◌≡◌, arith, length}
use Rattle.off.proofs.sewing.SidesInTurn.{Split, from_first, inside, to_other, to_next, closing, to_first}
use Rattle.off.proofs.sewing.SidesPut.{stand-none, stand-all, corner-low, next_low, side_room, stand_more}
use Rattle.off.proofs.sewing.put_sides.Goals as goal
use Rattle.off.proofs.sewing.put_sides.Goals.{At-loop-corner, After-loop-corner}

-- how the ring is split
parts : (c : At-loop-corner) → Split c.args.ring.now c.split_at.result.0.now c.split_at.result.1.now
parts c = record { some = c.requires.long; front = c.split_at.ensures.front; back = c.split_at.ensures.back }

pub loop-corner-init : goal.loop-corner-init
loop-corner-init c = record { from = from_first c.args.ring.now c.split_at.ensures.front; stand = stand-none c.requires }

pub bounds-m3-head : goal.bounds-m3-head
bounds-m3-head c =
    let S = parts (goal.at.bounds-m3-head c).At-loop-corner in
    let h = c.loop-corner-test.true in
    let I = c.loop-corner.invariant in
    let low = corner-low c.requires I.stand (omega (arith, inside S h)) I.from (to_next S h) in
    let low_next = next_low c.requires I.stand (omega (arith, inside S h)) I.from (to_next S h) in
    omega (arith, c.requires.size3)

pub put_side-requires : goal.put_side-requires
put_side-requires c =
    let S = parts (goal.at.put_side-requires c).At-loop-corner in
    let h = c.loop-corner-test.true in
    let I = c.loop-corner.invariant in
    side_room c.requires I.stand (omega (arith, inside S h)) I.from (to_next S h)

pub loop-corner-preserved : goal.loop-corner-preserved
loop-corner-preserved c =
    let S = parts (goal.at.loop-corner-preserved c).At-loop-corner in
    let h = c.loop-corner-test.true in
    let I = c.loop-corner.invariant in
    record { from = to_other S h; stand = stand_more c.requires I.stand (omega (arith, inside S h)) I.from (to_next S h) c.put_side.ensures }

-- all others were come to
all : (c : After-loop-corner) → c.loop-corner.corner-index ≡ length c.split_at.result.1.now
all c = omega arith

pub bounds-m3-first : goal.bounds-m3-first
bounds-m3-first c =
    let S = parts (goal.at.bounds-m3-first c).At-loop-corner in
    let e = all (goal.at.bounds-m3-first c).After-loop-corner in
    let I = c.loop-corner.invariant in
    let low = corner-low c.requires I.stand (omega (arith, closing S e)) I.from (to_first S e) in
    let low_next = next_low c.requires I.stand (omega (arith, closing S e)) I.from (to_first S e) in
    omega (arith, c.requires.size3)

pub put_side-requires-2 : goal.put_side-requires-2
put_side-requires-2 c =
    let S = parts (goal.at.put_side-requires-2 c).At-loop-corner in
    let e = all (goal.at.put_side-requires-2 c).After-loop-corner in
    let I = c.loop-corner.invariant in
    side_room c.requires I.stand (omega (arith, closing S e)) I.from (to_first S e)

pub returns : goal.returns
returns c =
    let S = parts (goal.at.returns c).At-loop-corner in
    let e = all (goal.at.returns c).After-loop-corner in
    let I = c.loop-corner.invariant in
    stand-all c.requires (stand_more c.requires I.stand (omega (arith, closing S e)) I.from (to_first S e) c.put_side-2.ensures) (omega (arith, closing S e))
