-- `operators::divider::is_proper` meets its contract: the tests of its callees are those of the definition.
use native.Mathlib.Omega.{arith}
use Rattle.operators.proofs.split.Edges.{proper-then, proper_else}
use Rattle.operators.proofs.divider.is_proper.Goals as goal

pub returns-then-are_units : goal.returns-then-are_units
returns-then-are_units c =
    proper-then c.args.v.now (omega arith) c.are_units.ensures c.if-are_units.true c.are_zero.ensures

pub returns-else-are_units : goal.returns-else-are_units
returns-else-are_units c = proper_else c.args.v.now (omega arith) c.are_units.ensures c.if-are_units.false
