-- `operators::kill::kill` meets its contract: its tests are those of the definition in their order, and `kill_at` and `shrunk` leave what it says.
use Rattle.rules.specs.Lending.{lent_by}
use native.Mathlib.Omega.{arith}
use Rattle.operators.specs.Cells.{Cell}
use Rattle.operators.proofs.Patterns.Patterns.{absent, found}
use Rattle.operators.proofs.kill.KillLaws.{free_seen, kill-absent, kill_used, kill-done}
use Rattle.operators.proofs.kill.kill.Goals as goal
use Rattle.operators.proofs.kill.kill.Goals.{Else-p-k}

-- past the first test there is such a cell
here : (c : Else-p-k) → let x = c.args in
    Cell 0 3 (lent_by x.p.now) x.dim x.cell
here c = let range = c.requires.dimension in
    let held = c.requires.held in found range (omega arith) held c.if-p-k.false

pub returns-then-p-k-clause-does : goal.returns-then-p-k-clause-does
returns-then-p-k-clause-does c = let range = c.requires.dimension in
    kill-absent (absent range (omega arith) c.if-p-k.true)

pub returns-then-not-is_free-clause-does : goal.returns-then-not-is_free-clause-does
returns-then-not-is_free-clause-does c =
    kill_used (here (goal.at.returns-then-not-is_free-clause-does c).Else-p-k) (free_seen _ _ c.is_free.ensures c.view.ensures c.if-not-is_free.true)

pub returns-clause-does : goal.returns-clause-does
returns-clause-does c =
    kill-done (here (goal.at.returns-clause-does c).Else-p-k) (free_seen _ _ c.is_free.ensures c.view.ensures c.if-not-is_free.false) c.kill_at.ensures.does
