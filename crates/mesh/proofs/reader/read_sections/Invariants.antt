-- `mesh::reader::read_sections` meets its contract: the sections before dimension k are read.
use Rattle.rules.specs.Lending.{lent_by, SameLoans}
use Rattle.mesh.specs.Reading.{TakenUpTo}
use Rattle.mesh.proofs.reader.read_sections.Given as goal

abbrev pub invariant-loop-k : goal.invariant-loop-k
invariant-loop-k l = TakenUpTo l.s l.k l.next (lent_by l.p) × SameLoans l.fn.p l.p
