-- `operators::merge::merge_at` meets its contract: the cell's column goes, the two beside it become one, the higher one's row goes; what is left is as it was.
use mathlib.Core.Path.{◌≡◌}
use native.Mathlib.Omega.{arith}
use Rattle.operators.proofs.merge.MergeLaws.{apart, some_left, merge0, merge1, merge2}
use Rattle.operators.proofs.merge.merge_at.Goals as goal

pub returns-in-0-clause-does : goal.returns-in-0-clause-does
returns-in-0-clause-does c =
    rw (c.shrunk-p.ensures, c.shrunk.ensures, c.in-0.is) (merge0 c.requires.cell.held.sized _ _ _ c.join.ensures c.remove_row.ensures)

pub returns-in-1-clause-does : goal.returns-in-1-clause-does
returns-in-1-clause-does c =
    rw (c.shrunk-p.ensures, c.shrunk.ensures, c.in-1.is)
    (merge1 c.requires.cell.held.sized _ _ _ c.remove_column.ensures c.join-in-1.ensures c.remove_row-in-1.ensures)

pub returns-in_default-clause-does : goal.returns-in_default-clause-does
returns-in_default-clause-does c =
    let e : c.args.dim ≡ 2 = omega (arith, c.requires.cell.range.high) in
    rw (c.shrunk-p.ensures, c.shrunk.ensures, e) (merge2 c.requires.cell.held.sized _ _ _ c.remove_column-in_default.ensures c.join-in_default.ensures)

pub shrunk-p-requires : goal.shrunk-p-requires
shrunk-p-requires c = (omega (arith, c.requires.cell.range.high), rw c.shrunk.ensures (some_left c.requires))

pub join-requires : goal.join-requires
join-requires c = apart c.requires 0

pub join-requires-in-1 : goal.join-requires-in-1
join-requires-in-1 c = apart c.requires 1

pub join-requires-in_default : goal.join-requires-in_default
join-requires-in_default c = apart c.requires 2
