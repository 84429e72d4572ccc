-- `listing::lines::put_face` meets its contract: an entry below 0 is a minus, one above 0 a plus, and 0 is nothing.
use mir.Facts.{to_z-of_z}
use Rattle.maths.proofs.Buffers.{no_piece}
use Rattle.listing.proofs.Faces.{face_minus, face_plus, face_none}
use Rattle.listing.proofs.lines.put_face.Goals as goal

pub returns-then-z-lt0 : goal.returns-then-z-lt0
returns-then-z-lt0 c =
    let below = rw (to_z-of_z c.ranges.z) at c.if-z-lt0.true in
    rw (face_minus c.args.i c.args.z below) c.put_labelled.ensures.put

pub returns-then-z-gt0 : goal.returns-then-z-gt0
returns-then-z-gt0 c =
    let above = rw (to_z-of_z c.ranges.z) at c.if-z-gt0.true in
    rw (face_plus c.args.i c.args.z above) c.put_labelled-then-z-gt0.ensures.put

pub returns-else-z-gt0 : goal.returns-else-z-gt0
returns-else-z-gt0 c =
    let e = to_z-of_z c.ranges.z in
    rw (face_none c.args.i c.args.z (rw e at c.if-z-lt0.false) (rw e at c.if-z-gt0.false)) (no_piece _ _)
