-- `are_distinct` marks each corner that it meets: one that is marked already is one of those before it.
use Rattle.off.proofs.rings.Marks.{Marked}
use Rattle.off.proofs.rings.are_distinct.Given as goal

abbrev pub invariant-loop-corner : goal.invariant-loop-corner
invariant-loop-corner v = Marked v.ring v.seen v.corner-index
