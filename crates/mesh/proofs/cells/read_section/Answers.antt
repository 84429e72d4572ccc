-- `mesh::cells::read_section` meets its contract: the count is not in form, or that many cells follow it.
use mathlib.Core.Path.{sym}
use native.Mathlib.Omega.{arith}
use Rattle.rules.proofs.Bytes.Fields.{byte_says}
use Rattle.rules.proofs.Branches.Refused.{handed_on}
use Rattle.rules.specs.Lending.{lent_by}
use Rattle.mesh.specs.Reading.{reached}
use Rattle.mesh.proofs.Parts.{faulted, went_as, section_faulty, section_is}
use Rattle.mesh.proofs.cells.read_section.Goals as goal

pub overflow_add-at : goal.overflow_add-at
overflow_add-at c =
    let a = c.args in
    omega (arith, c.well_formed, (byte_says a.s.now a.at 0 96 _ (sym c.in_ok-n.ensures)).there)

pub returns-in_err-n-clause-does : goal.returns-in_err-n-clause-does
returns-in_err-n-clause-does c =
    let a = c.args in
    rw (handed_on c.from_residual.ensures)
    (faulted _ c.requires.held (section_faulty a.s.now a.k (reached (lent_by a.p.now) a.at) (sym c.in_err-n.ensures)))

pub returns-clause-does : goal.returns-clause-does
returns-clause-does c =
    let a = c.args in
    went_as _ _ (section_is a.s.now a.k (reached (lent_by a.p.now) a.at) (sym c.in_ok-n.ensures)) c.read_cells.ensures.does
