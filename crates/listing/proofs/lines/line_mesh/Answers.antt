-- `listing::lines::line_mesh` meets its contract: the refusal and the line's end are put after the label.
use native.Mathlib.Omega.{arith}
use mathlib.Core.List.{append_assoc}
use Rattle.maths.proofs.Buffers.{two_pieces}
use Rattle.rules.specs.Printed.{printed_mesh}
use Rattle.listing.specs.Lines.{stop_text}
use Rattle.listing.proofs.lines.line_mesh.Goals as goal

pub returns : goal.returns
unfolding printed_mesh stop_text
returns c =
    record { put = simp append_assoc at (two_pieces c.put_all-next.ensures (two_pieces c.put_refusal-next.ensures.put c.put.ensures)); most = omega arith }
