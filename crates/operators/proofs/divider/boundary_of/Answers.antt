-- `operators::divider::boundary_of` meets its contract: the columns are added up, and the sum is tested.
use Rattle.grid.proofs.Summing.{blank}
use Rattle.grid.specs.Grid.{column_sum}
use Rattle.maths.specs.Tables.{table}
use Rattle.rules.specs.Calls.{coefficients}
use native.Mathlib.Omega.{arith}
use Rattle.operators.proofs.chosen.Lists.{of_96}
use Rattle.operators.proofs.split.Edges.{corner_found, edge_found}
use Rattle.operators.proofs.divider.boundary_of.Goals as goal

pub add_columns-requires-clause-blank : goal.add_columns-requires-clause-blank
add_columns-requires-clause-blank c = blank

pub returns-then-dim-eq1 : goal.returns-then-dim-eq1
returns-then-dim-eq1 c = corner_found c.if-dim-eq1.true

pub returns : goal.returns
returns c =
    let a = c.args in
    rw c.then_some.ensures (edge_found (of_96 (omega arith) (λ n. table 96 (column_sum a.low.now n (coefficients a.taken.now))) c.add_columns.ensures) c.is_divider.ensures)
