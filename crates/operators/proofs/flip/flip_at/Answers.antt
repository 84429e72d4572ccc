-- `operators::flip::flip_at` meets its contract: the matrices that hold the cell's column and row are negated there, and the others are as they were.
use mathlib.Core.Path.{◌≡◌}
use native.Mathlib.Omega.{arith}
use Rattle.operators.proofs.Patterns.Patterns.{unit}
use Rattle.operators.proofs.flip.FlipLaws.{flip1, flip2, flip3}
use Rattle.operators.proofs.flip.flip_at.Goals as goal

pub returns-in-1-clause-does : goal.returns-in-1-clause-does
returns-in-1-clause-does c =
    rw c.in-1.is (flip1 c.requires.held.sized _ c.negate_column.ensures c.negate_row.ensures)

pub returns-in-2-clause-does : goal.returns-in-2-clause-does
returns-in-2-clause-does c =
    rw c.in-2.is (flip2 c.requires.held.sized _ c.negate_column-in-2.ensures c.negate_row-in-2.ensures)

pub returns-in_default-clause-does : goal.returns-in_default-clause-does
returns-in_default-clause-does c =
    let e : c.args.dim ≡ 3 = omega arith in
    rw e (flip3 c.requires.held.sized _ c.negate_column-in_default.ensures)

pub negate_column-requires : goal.negate_column-requires
negate_column-requires c = unit c.requires 0

pub negate_row-requires : goal.negate_row-requires
negate_row-requires c = unit c.requires 1

pub negate_column-requires-in-2 : goal.negate_column-requires-in-2
negate_column-requires-in-2 c = unit c.requires 1

pub negate_row-requires-in-2 : goal.negate_row-requires-in-2
negate_row-requires-in-2 c = unit c.requires 2

pub negate_column-requires-in_default : goal.negate_column-requires-in_default
negate_column-requires-in_default c = unit c.requires 2
