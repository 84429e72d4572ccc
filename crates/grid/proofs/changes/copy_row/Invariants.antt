-- `grid::changes::copy_row` meets its contract: row b is a copy of row a before the column at s.
use mathlib.Core.Path.{◌≡◌}
use Prim.Native.Nat.{◌+◌, ◌%◌}
use Rattle.maths.specs.Tables.{entries}
use Rattle.grid.proofs.Walks.{Across}
use Rattle.grid.proofs.changes.copy_row.Given as goal

abbrev pub invariant-loop-s : goal.invariant-loop-s
invariant-loop-s l = (l.s % 96 ≡ 0) × Across l.b (l.s + l.b) (λ j. entries l.initial.m l.a j) (entries l.initial.m) l.m
