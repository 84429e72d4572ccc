-- `mesh::reader::read_sections` meets its contract: the sections before dimension k are read.
use mathlib.Core.Path.{◌≡◌}
use native.Mathlib.Omega.{arith}
use borrow.Author.Rules.{rules}
use Rattle.rules.proofs.Branches.Refused.{handed_on}
use Rattle.mesh.proofs.Wholes.{section_taken, section_stopped}
use Rattle.mesh.proofs.reader.read_sections.Goals as goal

pub loop-k-init : goal.loop-k-init
loop-k-init c = (c.in_ok-next.ensures.does, c.in_ok-next.ensures.same)

pub returns-in_err-next-2-clause-does : goal.returns-in_err-next-2-clause-does
returns-in_err-next-2-clause-does c =
    rw (handed_on c.from_residual-in_err-next-2.ensures)
    (section_stopped c.args.s.now c.loop-k.k (omega arith) (omega arith) c.loop-k.invariant.0 c.in_err-next-2.ensures.does)

pub loop-k-preserved : goal.loop-k-preserved
loop-k-preserved c = (section_taken c.args.s.now c.loop-k.k (omega arith) (omega arith) c.loop-k.invariant.0 c.in_ok-next-2.ensures.does, search rules)

pub returns-clause-does : goal.returns-clause-does
returns-clause-does c = let e : c.loop-k.k ≡ 4 = omega arith in rw e at c.loop-k.invariant.0
