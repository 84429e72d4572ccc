-- `off::walks::rings_length` meets its contract: the panels before j close up, and the length is that of their lines.
use Rattle.off.proofs.walks.Measuring.{Measuring}
use Rattle.off.proofs.walks.rings_length.Given as goal

abbrev pub invariant-loop-j : goal.invariant-loop-j
invariant-loop-j l = Measuring l.m2 l.ends l.length l.j
