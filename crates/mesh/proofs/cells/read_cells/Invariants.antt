-- `mesh::cells::read_cells` turns as `repeat` does: what is left to read, from what is reached, is always the whole.
use Rattle.rules.specs.Lending.{lent_by, SameLoans}
use Rattle.mesh.specs.Reading.{reached}
use Rattle.mesh.proofs.Parts.{CellsLeft}
use Rattle.mesh.proofs.cells.read_cells.Given as goal

abbrev pub invariant-loop : goal.invariant-loop
invariant-loop l =
    CellsLeft l.s l.k l.n (reached (lent_by l.fn.p) l.at) l.counter l.place (lent_by l.p) × SameLoans l.fn.p l.p
