-- `off::places::put_rings` meets its contract: the lines of the panels below j are put.
use Rattle.maths.proofs.Buffers.{Pieces}
use Rattle.off.specs.Exporting.{ring_line}
use Rattle.off.specs.Walking.{panel_ring}
use Rattle.off.proofs.places.put_rings.Given as goal

abbrev pub invariant-loop-j : goal.invariant-loop-j
invariant-loop-j l = Pieces (λ j. ring_line (panel_ring l.m2 l.ends j)) l.panels l.j l.initial.out l.at l.next l.out
