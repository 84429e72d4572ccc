-- `meet_sides` meets side after side, as its definition does, and the first refusal ends both.
use Rattle.std.proofs.Common.{◌≡◌}
use Rattle.off.specs.Rings.{corner_at}
use Rattle.off.proofs.sewing.SidesJoined.{Going}
use Rattle.off.proofs.sewing.meet_sides.Given as goal

abbrev pub invariant-loop-corner : goal.invariant-loop-corner
invariant-loop-corner l = record {
  from : l.tail ≡ corner_at l.ring l.corner-index;
  going : Going l.ring l.initial.counts l.initial.m1 l.counts l.m1 l.m3 l.corner-index;
}
