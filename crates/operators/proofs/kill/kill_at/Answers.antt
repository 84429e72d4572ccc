-- `operators::kill::kill_at` meets its contract: the matrices that hold the cell's column and row lose them, and the others are as they were.
use mathlib.Core.Path.{◌≡◌}
use native.Mathlib.Omega.{arith}
use Rattle.operators.proofs.kill.KillLaws.{kill0, kill1, kill2, kill3}
use Rattle.operators.proofs.kill.kill_at.Goals as goal

pub returns-in-0-clause-does : goal.returns-in-0-clause-does
returns-in-0-clause-does c =
    rw (c.shrunk-p.ensures, c.in-0.is) (kill0 c.requires.held.sized _ c.remove_row.ensures)

pub returns-in-1-clause-does : goal.returns-in-1-clause-does
returns-in-1-clause-does c =
    rw (c.shrunk-p.ensures, c.in-1.is) (kill1 c.requires.held.sized _ c.remove_column.ensures c.remove_row-in-1.ensures)

pub returns-in-2-clause-does : goal.returns-in-2-clause-does
returns-in-2-clause-does c =
    rw (c.shrunk-p.ensures, c.in-2.is) (kill2 c.requires.held.sized _ c.remove_column-in-2.ensures c.remove_row-in-2.ensures)

pub returns-in_default-clause-does : goal.returns-in_default-clause-does
returns-in_default-clause-does c =
    let e : c.args.dim ≡ 3 = omega (arith, c.requires.range.high) in
    rw (c.shrunk-p.ensures, e) (kill3 c.requires.held.sized _ c.remove_column-in_default.ensures)
