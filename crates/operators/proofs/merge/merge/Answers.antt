-- `operators::merge::merge` meets its contract: its tests are those of the definition in their order, and `merge_at` and `shrunk` leave what it says.
use Rattle.rules.specs.Lending.{lent_by}
use native.Mathlib.Omega.{arith}
use Rattle.operators.specs.Cells.{Cell}
use Rattle.operators.proofs.Patterns.Patterns.{absent, found}
use Rattle.rules.proofs.Branches.Refused.{handed_on}
use Rattle.operators.proofs.merge.MergeLaws.{sides_seen, merge-absent, merge-refused, merge-done, between}
use Rattle.operators.proofs.merge.merge.Goals as goal
use Rattle.operators.proofs.merge.merge.Goals.{Else-p-k}

-- past the first test there is such a cell
here : (c : Else-p-k) → let x = c.args in
    Cell 0 2 (lent_by x.p.now) x.dim x.cell
here c = let range = c.requires.dimension in
    let held = c.requires.held in found range (omega arith) held c.if-p-k.false

pub returns-then-p-k-clause-does : goal.returns-then-p-k-clause-does
returns-then-p-k-clause-does c = let range = c.requires.dimension in
    merge-absent (absent range (omega arith) c.if-p-k.true)

pub merge_at-requires : goal.merge_at-requires
merge_at-requires c =
    between (here (goal.at.merge_at-requires c).Else-p-k) (sides_seen _ _ c.in_ok-a.ensures c.view.ensures)

pub returns-in_err-a-clause-does : goal.returns-in_err-a-clause-does
returns-in_err-a-clause-does c =
    rw (handed_on c.from_residual.ensures) (merge-refused (here (goal.at.returns-in_err-a-clause-does c).Else-p-k) _ (sides_seen _ _ c.in_err-a.ensures c.view.ensures))

pub returns-clause-does : goal.returns-clause-does
returns-clause-does c =
    merge-done (here (goal.at.returns-clause-does c).Else-p-k) (sides_seen _ _ c.in_ok-a.ensures c.view.ensures) c.merge_at.ensures.does
