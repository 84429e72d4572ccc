-- `read_corners` turns as `several` does, and keeps the corners below the limit in the bytes as far as they have room.
use Rattle.std.proofs.Common.{◌≡◌, [], ◌∷◌, ◌++◌, sym, ◌∙◌, arith}
use Rattle.maths.proofs.Cases.{no_eq}
use Rattle.off.specs.Words.{natural}
use Rattle.off.proofs.lines.Several.{none_yet, one_more_lem, no_more, all_read, placed_none, placed_more}
use Rattle.off.proofs.lines.read_corners.Goals as goal
use Rattle.off.proofs.lines.read_corners.Goals.{then-below, else-below, then-below-2+then-l-bytes, else-below-2, else-below-2-via-then-below-2+else-l-bytes, else-below-2-via-else-below-2}

pub loop-l-init : goal.loop-l-init
loop-l-init c = record { ring = []; sofar = none_yet natural _ _; placed = placed_none c.requires.room }

pub returns-in_err-corner : goal.returns-in_err-corner
returns-in_err-corner c = rw c.from_residual.ensures (no_more natural c.loop-l.invariant.sofar c.loop-l-test.true (sym c.in_err-corner.ensures))

pub loop-l-preserved : goal.loop-l-preserved
loop-l-preserved c =
    let corner = c.in_ok-corner.corner in
    record {
      ring = c.loop-l.invariant.ring ++ (corner ∷ []);
      sofar = one_more_lem natural c.loop-l.invariant.sofar c.loop-l-test.true (sym c.in_ok-corner.ensures);
      placed = placed_more c.loop-l.invariant.placed corner
          (elim c.if-below.branch
          [ then-below w ↦ rw w.if-below.true w.below-is | else-below w ↦ rw w.if-below.false (w.below-is ∙ w.if-below.false) ])
          (omega (arith, c.loop-l.invariant.placed.room))
          (λ t h. elim c.if-below-2.branch [
            | then-below-2+then-l-bytes w ↦ w.bytes-is
            | else-below-2 w ↦ elim w.else-below-2.branch [
              | else-below-2-via-then-below-2+else-l-bytes w' ↦ absurd (omega (arith, c.loop-l.invariant.placed.room))
              | else-below-2-via-else-below-2 w' ↦ no_eq (sym w'.if-below-2.false ∙ t)
            ]
          ]);
    }

pub returns : goal.returns
returns c =
    let loop = c.loop-l in
    let all-read-now : loop.l ≡ c.args.n = omega arith in
    record {
      ring = loop.invariant.ring;
      is = all_read natural loop.invariant.sofar (omega arith);
      here = rw (← all-read-now) (record { long = loop.invariant.sofar.long; low = loop.invariant.placed.low; stand = loop.invariant.placed.stand });
    }
