-- `listing::pieces::put_seams` meets its contract: the lines of the seams below j are put, each in at most 32 bytes.
use Rattle.rules.specs.Printed.{seam_line}
use Rattle.listing.proofs.Columns.{Begun}
use Rattle.listing.proofs.pieces.put_seams.Given as goal

abbrev pub invariant-loop-j : goal.invariant-loop-j
invariant-loop-j l = Begun seam_line 32 l.m l.n l.initial.out l.initial.next l.j l.next l.out
