-- `operators::merge::is_between` meets its contract: the row's entries -1 and +1 are counted, the second only where the first count is 1.
use borrow.Author.Tests.{ne_eqb}
use Rattle.rules.specs.Good.{one_each}
use Rattle.operators.proofs.merge.is_between.Goals as goal

pub returns-then-row_times-eq1 : goal.returns-then-row_times-eq1
unfolding one_each
returns-then-row_times-eq1 c = rw (← c.row_times.ensures, c.if-row_times-eq1.true, ← c.row_times-then-row_times-eq1.ensures)

pub returns-else-row_times-eq1 : goal.returns-else-row_times-eq1
unfolding one_each
returns-else-row_times-eq1 c = rw (← c.row_times.ensures, ne_eqb _ _ c.if-row_times-eq1.false)
