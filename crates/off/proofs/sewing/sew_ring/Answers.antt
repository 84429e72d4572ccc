-- `sew_ring` makes the tests in the order of its definition, and the column of the sides is the new panel's.
use mathlib.Core.Path.{◌≡◌, sym, ◌∙◌}
use mathlib.Core.Bool.{true}
use native.Mathlib.Omega.{arith}
use Rattle.std.proofs.lemmas.Result.{err_from_is_err_and}
use Rattle.off.specs.Rings.{is_ring}
use Rattle.off.proofs.sewing.RingStored.{ring-bytes, no_ring, ring-seams, ring-refused, panels-room, sides-room, ring-sewn}
use Rattle.off.proofs.sewing.sew_ring.Goals as goal
use Rattle.off.proofs.sewing.sew_ring.Goals.{Else-not-is_ring}

-- the test was passed
ring : (c : Else-not-is_ring) → is_ring c.args.ring.now ≡ true
ring c = sym c.is_ring.ensures ∙ c.if-not-is_ring.false

pub is_ring-requires : goal.is_ring-requires
is_ring-requires c = ring-bytes c.requires

pub returns-then-not-is_ring : goal.returns-then-not-is_ring
returns-then-not-is_ring c = no_ring c.requires (sym c.is_ring.ensures ∙ c.if-not-is_ring.true)

pub meet_sides-requires : goal.meet_sides-requires
meet_sides-requires c = ring-seams c.requires (ring (goal.at.meet_sides-requires c).Else-not-is_ring)

pub returns-in_err-counts : goal.returns-in_err-counts
returns-in_err-counts c =
    let p = err_from_is_err_and c.from_residual.result c.from_residual.ensures.1 in
    rw (p.1, p.2) (ring-refused c.requires (ring (goal.at.returns-in_err-counts c).Else-not-is_ring) c.in_err-counts.ensures)

pub put_sides-requires : goal.put_sides-requires
put_sides-requires c = sides-room c.requires (ring (goal.at.put_sides-requires c).Else-not-is_ring) c.in_ok-counts.ensures

pub grown-requires : goal.grown-requires
grown-requires c = (omega arith, panels-room c.requires (ring (goal.at.grown-requires c).Else-not-is_ring) c.in_ok-counts.ensures)

pub returns : goal.returns
returns c =
    rw c.grown.ensures (ring-sewn c.requires (ring (goal.at.returns c).Else-not-is_ring) c.in_ok-counts.ensures c.put_sides.ensures)
