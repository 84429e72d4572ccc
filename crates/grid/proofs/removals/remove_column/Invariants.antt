-- `grid::removals::remove_column` meets its contract: before the place p the columns from c on are the next ones, and past the last is nothing.
use Prim.Native.Nat.{◌*◌, ◌-◌}
use Rattle.maths.specs.Tables.{entries}
use Rattle.grid.specs.Grid.{removed_column}
use Rattle.grid.proofs.Walks.{Along}
use Rattle.grid.proofs.removals.remove_column.Given as goal

abbrev pub invariant-loop-p : goal.invariant-loop-p
invariant-loop-p l = Along (96 * l.c) l.p (removed_column l.c (entries l.initial.m)) (entries l.initial.m) l.m

abbrev pub decreases-loop-p : goal.decreases-loop-p
decreases-loop-p l = 9120 - l.p
