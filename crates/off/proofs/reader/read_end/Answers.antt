-- `read_end`: the rings are there and nothing follows them, or the text is not plain.
use mathlib.Core.Path.{refl, sym, ◌∙◌}
use Rattle.off.proofs.reader.TextAnswers.{ended, end_none, end_some, no_rings, more_text, all-rings}
use Rattle.off.proofs.reader.read_end.Goals as goal

pub returns-in_err-sewn : goal.returns-in_err-sewn
returns-in_err-sewn c =
    let none = c.in_err-sewn.ensures.ok_part in
    rw (ended none c.in_err-sewn.ensures.value c.from_residual.ensures.1)
    (end_none (no_rings c.args.panels _ (rw none at c.read_panels.ensures.is)) refl c.read_panels.ensures.sizes)

pub returns-then-not-is_over : goal.returns-then-not-is_over
returns-then-not-is_over c =
    let here = rw c.in_ok-sewn.ensures.ok_part at c.read_panels.ensures.is in
    end_none (more_text c.args.panels _ here.is (sym c.is_over.ensures ∙ c.if-not-is_over.true)) refl c.read_panels.ensures.sizes

pub returns : goal.returns
returns c =
    let here = rw c.in_ok-sewn.ensures.ok_part at c.read_panels.ensures.is in
    end_some here.rings (all-rings c.args.panels _ here.is (sym c.is_over.ensures ∙ c.if-not-is_over.false)) here.stands
