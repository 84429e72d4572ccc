-- `meet_sides` meets side after side, as its definition does, and the first refusal ends both.
use Rattle.std.proofs.Common.{◌≡◌, arith, length}
use Rattle.std.proofs.lemmas.Result.{err_from_is_err_and}
use Rattle.off.proofs.sewing.RingSides.{ring_long}
use Rattle.off.proofs.sewing.SidesInTurn.{Split, from_first, inside, to_other, to_next, closing, to_first}
use Rattle.off.proofs.sewing.SidesJoined.{going_none, two_corners, going_on, going_stops, going_ends}
use Rattle.off.proofs.sewing.meet_sides.Goals as goal
use Rattle.off.proofs.sewing.meet_sides.Goals.{At-loop-corner, After-loop-corner}

pub split_at-requires : goal.split_at-requires
split_at-requires c = omega (arith, ring_long c.args.ring.now c.requires.ring)

-- how the ring is split
parts : (c : At-loop-corner) → Split c.args.ring.now c.split_at.result.0.now c.split_at.result.1.now
parts c = record {
  some = omega (arith, ring_long c.args.ring.now c.requires.ring);
  front = c.split_at.ensures.front;
  back = c.split_at.ensures.back;
}

pub loop-corner-init : goal.loop-corner-init
loop-corner-init c = record { from = from_first c.args.ring.now c.split_at.ensures.front; going = going_none c.requires }

pub meet_side-requires : goal.meet_side-requires
meet_side-requires c =
    let S = parts (goal.at.meet_side-requires c).At-loop-corner in
    let h = c.loop-corner-test.true in
    let I = c.loop-corner.invariant in
    two_corners c.requires I.going (omega (arith, inside S h)) I.from (to_next S h)

pub returns-in_err-counts : goal.returns-in_err-counts
returns-in_err-counts c =
    let S = parts (goal.at.returns-in_err-counts c).At-loop-corner in
    let h = c.loop-corner-test.true in
    let I = c.loop-corner.invariant in
    let p = err_from_is_err_and c.from_residual.result c.from_residual.ensures.1 in
    rw (p.1, p.2) (going_stops c.requires I.going (omega (arith, inside S h)) I.from (to_next S h) c.in_err-counts.ensures)

pub loop-corner-preserved : goal.loop-corner-preserved
loop-corner-preserved c =
    let S = parts (goal.at.loop-corner-preserved c).At-loop-corner in
    let h = c.loop-corner-test.true in
    let I = c.loop-corner.invariant in
    record { from = to_other S h; going = going_on c.requires I.going (omega (arith, inside S h)) I.from (to_next S h) c.in_ok-counts.ensures }

-- all others were come to
all : (c : After-loop-corner) → c.loop-corner.corner-index ≡ length c.split_at.result.1.now
all c = omega arith

pub meet_side-requires-2 : goal.meet_side-requires-2
meet_side-requires-2 c =
    let S = parts (goal.at.meet_side-requires-2 c).At-loop-corner in
    let e = all (goal.at.meet_side-requires-2 c).After-loop-corner in
    let I = c.loop-corner.invariant in
    two_corners c.requires I.going (omega (arith, closing S e)) I.from (to_first S e)

pub returns : goal.returns
returns c =
    let S = parts (goal.at.returns c).At-loop-corner in
    let e = all (goal.at.returns c).After-loop-corner in
    let I = c.loop-corner.invariant in
    going_ends c.requires I.going (closing S e) I.from (to_first S e) c.meet_side-2.result c.meet_side-2.ensures
