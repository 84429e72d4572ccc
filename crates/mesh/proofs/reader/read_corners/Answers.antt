-- `mesh::reader::read_corners` meets its contract: the count is not in form, or the reading goes on from that many corners.
use mathlib.Core.Path.{sym}
use native.Mathlib.Omega.{arith}
use Rattle.rules.proofs.Bytes.Fields.{byte_says}
use Rattle.rules.proofs.Branches.Refused.{handed_on}
use Rattle.mesh.proofs.Wholes.{corners_read, corners-refused}
use Rattle.mesh.proofs.reader.read_corners.Goals as goal

pub overflow_cast-p : goal.overflow_cast-p
overflow_cast-p c = omega (arith, (byte_says c.args.s.now 0 0 96 _ (sym c.in_ok-n.ensures)).most)

pub returns-in_err-n-clause-does : goal.returns-in_err-n-clause-does
returns-in_err-n-clause-does c = rw (handed_on c.from_residual.ensures) (corners-refused c.args.s.now c.requires (sym c.in_err-n.ensures))

pub returns-clause-does : goal.returns-clause-does
returns-clause-does c = corners_read c.args.s.now c.requires (sym c.in_ok-n.ensures)
