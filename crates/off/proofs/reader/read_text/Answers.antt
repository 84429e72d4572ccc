-- `read_text` reads the counts, and then the body.
use mathlib.Core.Path.{refl}
use Rattle.off.proofs.reader.TextAnswers.{ended, blank-sizes, blank-length, text-none}
use Rattle.off.proofs.reader.read_text.Goals as goal

pub returns-in_err-corners : goal.returns-in_err-corners
returns-in_err-corners c =
    let none = c.in_err-corners.ensures.ok_part in
    rw (ended none c.in_err-corners.ensures.value c.from_residual.ensures.1)
    (text-none (rw none at c.read_counts.ensures) refl (blank-sizes c.requires) (blank-length c.requires))
