-- `mesh::cells::read_cells` turns as `repeat` does: what is left to read, from what is reached, is always the whole.
use native.Mathlib.Omega.{arith}
use borrow.Author.Rules.{rules}
use Rattle.rules.proofs.Branches.Refused.{handed_on}
use Rattle.rules.specs.Lending.{lent_by}
use Rattle.mesh.specs.Reading.{reached}
use Rattle.mesh.proofs.Parts.{cells_more, cells_stop, cells_end}
use Rattle.mesh.proofs.cells.read_cells.Goals as goal

pub returns-in_err-place-clause-does : goal.returns-in_err-place-clause-does
returns-in_err-place-clause-does c =
    let a = c.args in
    rw (handed_on c.from_residual.ensures)
    (cells_stop a.s.now a.k a.n (reached (lent_by a.p.now) a.at) c.loop.invariant.0 (omega arith) c.in_err-place.ensures.does)

pub loop-preserved : goal.loop-preserved
loop-preserved c =
    let a = c.args in
    (cells_more a.s.now a.k a.n (reached (lent_by a.p.now) a.at) c.loop.invariant.0 (omega arith) c.in_ok-place.ensures.does, search rules)

pub returns-clause-does : goal.returns-clause-does
returns-clause-does c =
    let a = c.args in
    cells_end a.s.now a.k a.n (reached (lent_by a.p.now) a.at) c.loop.invariant.0 (omega arith)
