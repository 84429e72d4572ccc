-- `listing::lines::line_ran` meets its contract: a number, the refusal and the line's end are put one after the other.
use mathlib.Core.List.{append_assoc}
use native.Mathlib.Omega.{arith}
use Rattle.maths.proofs.Buffers.{two_pieces}
use Rattle.listing.specs.Lines.{ran_line, stop_text}
use Rattle.listing.proofs.lines.line_ran.Goals as goal

pub returns : goal.returns
unfolding ran_line stop_text
returns c =
    let last = simp append_assoc at (two_pieces c.put_refusal-next.ensures.put c.put.ensures) in
    record { put = two_pieces c.put_labelled-next.ensures.put last; most = omega arith }
