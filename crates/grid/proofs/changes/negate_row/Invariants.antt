-- `grid::changes::negate_row` meets its contract: row r is negated before the place p.
use lib.IntN.{neg_ℤ}
use Rattle.maths.specs.Tables.{entries}
use Rattle.grid.proofs.Walks.{Across}
use Rattle.grid.proofs.changes.negate_row.Given as goal

abbrev pub invariant-loop-p : goal.invariant-loop-p
invariant-loop-p l = Across l.r l.p (λ j. neg_ℤ (entries l.initial.m l.r j)) (entries l.initial.m) l.m
