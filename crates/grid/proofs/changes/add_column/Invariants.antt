-- `grid::changes::add_column` meets its contract: column b is added to the rows below i of column a, and row i is still the old one.
use lib.IntN.{◌+ℤ◌}
use Rattle.maths.specs.Tables.{entries}
use Rattle.grid.proofs.Walks.{Down}
use Rattle.grid.proofs.changes.add_column.Given as goal

abbrev pub invariant-loop-i : goal.invariant-loop-i
invariant-loop-i l = Down l.a l.i (λ i. entries l.initial.m i l.a +ℤ entries l.initial.m i l.b) (entries l.initial.m) l.m
