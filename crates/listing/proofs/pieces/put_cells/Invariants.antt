-- `listing::pieces::put_cells` meets its contract: the lines of the cells below j are put, each in at most 400 bytes.
use mathlib.Core.List.{[], ◌∷◌}
use Rattle.rules.specs.Printed.{cell_line}
use Rattle.listing.proofs.Columns.{Begun}
use Rattle.listing.proofs.pieces.put_cells.Given as goal

abbrev pub invariant-loop-j : goal.invariant-loop-j
invariant-loop-j l = Begun (cell_line (l.letter ∷ [])) 400 l.m l.n l.initial.out l.initial.next l.j l.next l.out
