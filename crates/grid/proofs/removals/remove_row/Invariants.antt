-- `grid::removals::remove_row` meets its contract: row r is removed from the columns below j, and those from j on are still the old ones.
use Prim.Native.Nat.{◌*◌}
use Rattle.maths.specs.Tables.{entries}
use Rattle.grid.specs.Grid.{removed_row}
use Rattle.grid.proofs.Walks.{Along}
use Rattle.grid.proofs.removals.remove_row.Given as goal

abbrev pub invariant-loop-j : goal.invariant-loop-j
invariant-loop-j l = Along 0 (96 * l.j) (removed_row l.r (entries l.initial.m)) (entries l.initial.m) l.m
