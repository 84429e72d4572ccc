-- `off::ends::Ends::same_ends` meets its contract: the tests are the definition's.
use borrow.Author.Rules.{rules}
use Rattle.off.specs.Walking.{same_ends}
use Rattle.off.proofs.ends.Ends.same_ends.Goals as goal

pub returns-then-eq : goal.returns-then-eq
unfolding same_ends
returns-then-eq c = rw (← c.eq.ensures, c.if-eq.true)

pub returns-else-eq : goal.returns-else-eq
unfolding same_ends
returns-else-eq c = rw (← c.eq.ensures, c.if-eq.false) (search rules)
