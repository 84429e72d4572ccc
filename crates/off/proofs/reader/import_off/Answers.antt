-- `import_off`: lengths first; then the text is read into blank lists, and what it leaves is taken, or cleared again.
use mathlib.Core.Path.{◌≡◌, sym, ap, ◌∙◌}
use mathlib.Core.Bool.{true, ◌&&◌, and-false}
use Rattle.rules.specs.Calls.{sized}
use Rattle.maths.proofs.Cases.{and_both}
use lib.ListN.{length}
use borrow.Author.Tests.{eq-eqb, ne_eqb}
use Rattle.off.specs.Calls.{sized_list}
use Rattle.off.specs.Wholes.{uncounted}
use Rattle.off.proofs.reader.ImportAnswers.{wrong_lengths, refused-left, taken-left}
use Rattle.off.proofs.reader.import_off.Goals as goal
use Rattle.off.proofs.reader.import_off.Goals.{Else-list-ne-COORDINATES, then-not-is_sized-via-then-not-is_sized, then-not-is_sized-via-else-not-is_sized+then-list-ne-COORDINATES}

pub returns-then-not-is_sized-clause-does : goal.returns-then-not-is_sized-clause-does
returns-then-not-is_sized-clause-does c =
    wrong_lengths _ _ _ (elim c.then-not-is_sized.branch [
      | then-not-is_sized-via-then-not-is_sized w ↦
          ap (λ b. b && sized_list c.args.list.now) (ap sized (sym c.view.ensures) ∙ sym w.if-not-is_sized.ensures)
      | then-not-is_sized-via-else-not-is_sized+then-list-ne-COORDINATES w ↦
          rw (ne_eqb (length c.args.list.now) 288 w.if-list-ne-COORDINATES.true) (and-false _)
    ])

-- all lengths are right
right : (c : Else-list-ne-COORDINATES) → sized (uncounted c.args.p.now) && sized_list c.args.list.now ≡ true
right c = and_both (ap sized (sym c.view.ensures) ∙ sym c.is_sized.ensures ∙ c.if-not-is_sized.false) (eq-eqb _ 288 c.if-list-ne-COORDINATES.false)

pub returns-then-is_err-clause-does : goal.returns-then-is_err-clause-does
returns-then-is_err-clause-does c =
    rw (c.unwrap_or-p.ensures, c.and-answer.ensures)
    (refused-left _ _ _ (right (goal.at.returns-then-is_err-clause-does c).Else-list-ne-COORDINATES) c.read_text-read.result
    (rw c.and-answer.ensures at c.if-is_err.ensures.value) c.read_text-read.ensures
    (record { none1 = c.clear-then-is_err.ensures; none2 = c.clear-then-is_err-2.ensures; none3 = c.clear-4.ensures; zeros = c.clear_coordinates-then-is_err.ensures }))

pub returns-else-is_err-clause-does : goal.returns-else-is_err-clause-does
returns-else-is_err-clause-does c =
    rw (c.unwrap_or-p.ensures, c.and-answer.ensures)
    (taken-left _ _ _ (right (goal.at.returns-else-is_err-clause-does c).Else-list-ne-COORDINATES) c.read_text-read.result (rw c.and-answer.ensures at c.if-is_err.ensures.value)
    c.read_text-read.ensures c.clear-4.ensures)
