-- `operators::chosen::take_part` meets its contract: a seam's head, and otherwise the listed faces where each is there.
use Rattle.std.proofs.Common.{◌<◌}
use Rattle.std.proofs.lemmas.List.Elements.{All-get_or}
use mathlib.Core.Path.{sym, ◌∙◌}
use Rattle.rules.specs.Calls.{coefficients}
use Rattle.operators.specs.Part.{numbers}
use Rattle.operators.proofs.chosen.Choices.{head-taken, listed-taken, listed_missing}
use Rattle.operators.proofs.chosen.take_part.Goals as goal

pub returns-then-dim-eq1 : goal.returns-then-dim-eq1
returns-then-dim-eq1 c =
    let a = c.args in
    rw c.then_some.ensures (head-taken (numbers a.faces.now) (coefficients a.column.now) c.if-dim-eq1.true c.take_head-taken.ensures c.is_true_part.ensures)

pub returns-then-not-listed_there : goal.returns-then-not-listed_there
returns-then-not-listed_there c =
    let a = c.args in
    listed_missing (numbers a.faces.now) (coefficients a.column.now) c.if-dim-eq1.false
    (λ l h. All-get_or (λ i. i < 96) a.faces.now l 0 h c.requires.few) (sym c.listed_there.ensures ∙ c.if-not-listed_there.true)

pub returns : goal.returns
returns c =
    let a = c.args in
    rw c.then_some-2.ensures
    (listed-taken (numbers a.faces.now) (coefficients a.column.now) c.if-dim-eq1.false c.take_listed-taken.ensures
    (sym c.listed_there.ensures ∙ c.if-not-listed_there.false) c.is_true_part-2.ensures)
