-- `are_distinct` marks each corner that it meets: one that is marked already is one of those before it.
use mathlib.Core.Bool.{false}
use native.Mathlib.Omega.{arith}
use lib.ListN.{length-replicate, get_or-replicate}
use Rattle.off.proofs.rings.Marks.{marked_none, marked_again, marked_more, marked_all}
use Rattle.off.proofs.sewing.RingSides.{corner-below}
use Rattle.off.proofs.rings.are_distinct.Goals as goal

pub loop-corner-init : goal.loop-corner-init
loop-corner-init c = marked_none _ _ (length-replicate 96 false) (λ k h. get_or-replicate 96 k false false h)

pub returns-then-seen-c : goal.returns-then-seen-c
returns-then-seen-c c =
    let low = corner-below c.args.ring.now c.requires.low c.loop-corner.corner-index c.loop-corner-test.true in
    marked_again c.loop-corner.invariant low c.loop-corner-test.true c.if-seen-c.true

pub loop-corner-preserved : goal.loop-corner-preserved
loop-corner-preserved c =
    let low = corner-below c.args.ring.now c.requires.low c.loop-corner.corner-index c.loop-corner-test.true in
    marked_more c.loop-corner.invariant low c.if-seen-c.false

pub returns : goal.returns
returns c = marked_all c.loop-corner.invariant (omega arith)

pub bounds-seen-c : goal.bounds-seen-c
bounds-seen-c c = corner-below c.args.ring.now c.requires.low c.loop-corner.corner-index c.loop-corner-test.true

pub bounds-seen-c-in-loop-corner : goal.bounds-seen-c-in-loop-corner
bounds-seen-c-in-loop-corner c = corner-below c.args.ring.now c.requires.low c.loop-corner.corner-index c.loop-corner-test.true
