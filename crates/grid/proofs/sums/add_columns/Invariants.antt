-- `grid::sums::add_columns` meets its contract: after j turns the sums are those of the first j columns, so they stay small.
use lib.ListN.{length}
use Rattle.grid.specs.Grid.{nth}
use Rattle.grid.proofs.Summing.{Summing}
use Rattle.grid.proofs.sums.add_columns.Given as goal

abbrev pub invariant-loop-j : goal.invariant-loop-j
invariant-loop-j l = Summing l.low (length l.chain) (nth l.chain) l.j l.sums
