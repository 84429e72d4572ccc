-- `mesh::cells::read_cell` meets its contract: the bytes are not in form, or make judges the cell.
use mathlib.Core.Path.{sym}
use Rattle.rules.proofs.Branches.Refused.{handed_on}
use Rattle.rules.specs.Lending.{lent_by}
use Rattle.mesh.proofs.Parts.{faulted, cell-faulty, cell-form, cell_taken, cell_refused}
use Rattle.mesh.proofs.cells.read_cell.Goals as goal

pub returns-in_err-next-clause-does : goal.returns-in_err-next-clause-does
returns-in_err-next-clause-does c =
    let a = c.args in
    rw (handed_on c.from_residual.ensures) (faulted _ c.requires.held (cell-faulty a.s.now a.k a.at (lent_by a.p.now) (sym c.in_err-next.ensures)))

pub make-requires-clause-make_form : goal.make-requires-clause-make_form
make-requires-clause-make_form c =
    let a = c.args in
    cell-form a.s.now a.k a.at (lent_by a.p.now) c.requires (sym c.in_ok-next.ensures)

pub returns-in_err-make-clause-does : goal.returns-in_err-make-clause-does
returns-in_err-make-clause-does c =
    let a = c.args in
    rw (handed_on c.from_residual-in_err-make.ensures)
    (cell_refused a.s.now a.k a.at (lent_by a.p.now) c.requires (sym c.in_ok-next.ensures) c.in_err-make.ensures.does)

pub returns-clause-does : goal.returns-clause-does
returns-clause-does c =
    let a = c.args in
    cell_taken a.s.now a.k a.at (lent_by a.p.now) c.requires (sym c.in_ok-next.ensures) c.in_ok-make.ensures.does
