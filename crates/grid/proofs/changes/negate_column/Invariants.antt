-- `grid::changes::negate_column` meets its contract: the first entries of the column are negated.
use lib.IntN.{pos, neg_ℤ}
use Rattle.maths.specs.Tables.{entries}
use Rattle.maths.proofs.Sweep.{Filled}
use Rattle.grid.proofs.changes.negate_column.Given as goal

abbrev pub invariant-loop-x : goal.invariant-loop-x
invariant-loop-x l = Filled (pos 0) (λ k. neg_ℤ (entries l.fn.m k l.c)) l.initial.x-items l.x-items l.x-index
