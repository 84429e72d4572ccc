-- `operators::divider::one_each` meets its contract: the counts of its callee are those of the definition.
use native.Mathlib.Omega.{arith}
use Rattle.operators.proofs.split.Edges.{ends-then, ends_else}
use Rattle.operators.proofs.divider.one_each.Goals as goal

pub returns-then-times_of-eq1 : goal.returns-then-times_of-eq1
returns-then-times_of-eq1 c =
    ends-then c.args.v.now (omega arith) c.times_of.ensures c.if-times_of-eq1.true c.times_of-then-times_of-eq1.ensures

pub returns-else-times_of-eq1 : goal.returns-else-times_of-eq1
returns-else-times_of-eq1 c = ends_else c.args.v.now (omega arith) c.times_of.ensures c.if-times_of-eq1.false
