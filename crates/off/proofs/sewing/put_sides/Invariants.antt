-- `put_sides` puts side after side, and the last leaves the chain of them all.
use Rattle.std.proofs.Common.{◌≡◌}
use Rattle.off.specs.Rings.{corner_at}
use Rattle.off.proofs.sewing.SidesPut.{SidesStand}
use Rattle.off.proofs.sewing.put_sides.Given as goal

abbrev pub invariant-loop-corner : goal.invariant-loop-corner
invariant-loop-corner l = record {
  from : l.tail ≡ corner_at l.ring l.corner-index;
  stand : SidesStand l.ring l.m3 l.initial.m2 l.j l.m2 l.corner-index;
}
