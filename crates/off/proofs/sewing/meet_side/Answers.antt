-- `meet_side` asks the table of ends whether the seam is there, and the counts whether there is room.
use native.Mathlib.Omega.{arith}
use Rattle.off.proofs.sewing.SeamMet.{place-low, seam_absent, seam-there, joined_there, joined_full, joined_new}
use Rattle.off.proofs.sewing.meet_side.Goals as goal

pub slice_copy_out-seam : goal.slice_copy_out-seam
slice_copy_out-seam c = place-low c.requires

pub returns-then-seam-ne0 : goal.returns-then-seam-ne0
returns-then-seam-ne0 c = joined_there c.requires (seam-there c.requires c.if-seam-ne0.true)

pub returns-then-c-eq-SIDE : goal.returns-then-c-eq-SIDE
returns-then-c-eq-SIDE c = joined_full c.requires (seam_absent c.requires c.if-seam-ne0.false) (omega arith)

pub add_seam-requires : goal.add_seam-requires
add_seam-requires c =
    record { corners = c.requires; absent = seam_absent c.requires c.if-seam-ne0.false; room = omega (arith, c.requires.seams.drawn.held.good.few 1) }

pub returns : goal.returns
returns c =
    joined_new c.requires (seam_absent c.requires c.if-seam-ne0.false) (omega (arith, c.requires.seams.drawn.held.good.few 1)) c.add_seam.ensures
