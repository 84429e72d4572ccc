-- `off::ends::take_ends` meets its contract: the ends of the seams before j are found, and those of seam j are put in their places.
use Rattle.off.proofs.ends.EndsFound.{EndsSoFar}
use Rattle.off.proofs.ends.take_ends.Given as goal

abbrev pub invariant-loop-j : goal.invariant-loop-j
invariant-loop-j l = EndsSoFar l.m1 l.ends l.j
