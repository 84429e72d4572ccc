-- `operators::flip::flip` meets its contract: the cell's number is tested against its count, and `flip_at` leaves what the definition says.
use Rattle.rules.specs.Lending.{lent_by}
use native.Mathlib.Omega.{arith}
use Rattle.operators.specs.Cells.{Cell}
use Rattle.operators.proofs.Patterns.Patterns.{absent, found}
use Rattle.operators.proofs.flip.FlipLaws.{flip-absent, flip-done}
use Rattle.operators.proofs.flip.flip.Goals as goal
use Rattle.operators.proofs.flip.flip.Goals.{Else-p-k}

-- past the test there is such a cell
here : (c : Else-p-k) → let x = c.args in
    Cell 1 3 (lent_by x.p.now) x.dim x.cell
here c = let range = c.requires.dimension in
    let held = c.requires.held in found range (omega arith) held c.if-p-k.false

pub returns-then-p-k-clause-does : goal.returns-then-p-k-clause-does
returns-then-p-k-clause-does c = let range = c.requires.dimension in
    flip-absent (absent range (omega arith) c.if-p-k.true)

pub returns-clause-does : goal.returns-clause-does
returns-clause-does c =
    flip-done (here (goal.at.returns-clause-does c).Else-p-k) c.flip_at.ensures.does
