-- `off::walks::fill_next` meets its contract: the list is that of the seams so far, and the next is put in.
use mathlib.Core.Path.{◌≡◌}
use lib.ListN.{length}
use Rattle.maths.specs.Tables.{table, column}
use Rattle.off.specs.Exporting.{next_among}
use Rattle.off.specs.Walking.{ends_by}
use Rattle.off.proofs.walks.fill_next.Given as goal

abbrev pub invariant-loop-seam : goal.invariant-loop-seam
invariant-loop-seam l = l.next ≡ table 97 (next_among (ends_by l.ends) (column l.m2 l.j) (length l.yielded))
