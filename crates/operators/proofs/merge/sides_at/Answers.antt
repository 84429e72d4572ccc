-- `operators::merge::sides_at` meets its contract: matrix 1, 2 or 3 has the row of a corner, a seam or a panel.
use mathlib.Core.Path.{◌≡◌}
use native.Mathlib.Omega.{arith}
use Rattle.operators.proofs.merge.sides_at.Goals as goal

pub returns-in_default : goal.returns-in_default
returns-in_default c =
    let e : c.args.dim ≡ 2 = omega (arith, c.requires.range.high) in
    rw e c.sides_in-in_default.ensures

pub returns-in-0 : goal.returns-in-0
returns-in-0 c = rw c.in-0.is c.sides_in.ensures

pub returns-in-1 : goal.returns-in-1
returns-in-1 c = rw c.in-1.is c.sides_in-in-1.ensures
