-- `engine::apply_operator` meets its contract: each return is one of the call's answers.
use mathlib.Core.Path.{◌≡◌, sym, ap, ◌∙◌}
use borrow.Author.Rules.{rules}
use Rattle.rules.specs.Refusals.{accepted}
use Rattle.rules.specs.Lending.{lent_by}
use Rattle.good.specs.Tested.{tested}
use Rattle.good.proofs.Passing.{held}
use Rattle.rules.proofs.Branches.Refused.{handed_on}
use Rattle.engine.proofs.Answers.{lone_read, apply_not-good, apply_faulty, apply_done}
use Rattle.engine.proofs.apply_operator.Goals as goal
use Rattle.engine.proofs.apply_operator.Goals.{In_ok-refusal_of_pattern}

-- the pattern passed its test
passed : (c : In_ok-refusal_of_pattern) → tested (lent_by c.args.p.now) ≡ accepted
passed c = sym (c.in_ok-refusal_of_pattern.ensures ∙ ap tested c.view.ensures)

pub returns-in_err-refusal_of_pattern-clause-does : goal.returns-in_err-refusal_of_pattern-clause-does
returns-in_err-refusal_of_pattern-clause-does c =
    rw (handed_on c.from_residual.ensures) (apply_not-good _ _ _ (c.in_err-refusal_of_pattern.ensures ∙ ap tested c.view.ensures))

pub returns-in_err-o-clause-does : goal.returns-in_err-o-clause-does
returns-in_err-o-clause-does c =
    rw (handed_on c.from_residual-in_err-o.ensures)
    (apply_faulty _ _ (passed (goal.at.returns-in_err-o-clause-does c).In_ok-refusal_of_pattern) (sym c.in_err-o.ensures))

pub apply-requires-clause-held : goal.apply-requires-clause-held
apply-requires-clause-held c =
    held (lent_by c.args.p.now) (search rules) (passed (goal.at.apply-requires-clause-held c).In_ok-refusal_of_pattern)

pub apply-requires-clause-read_from : goal.apply-requires-clause-read_from
apply-requires-clause-read_from c = lone_read (sym c.in_ok-o.ensures)

pub returns-in_err-apply-clause-does : goal.returns-in_err-apply-clause-does
returns-in_err-apply-clause-does c =
    rw (handed_on c.from_residual-in_err-apply.ensures)
    (apply_done _ _ (passed (goal.at.returns-in_err-apply-clause-does c).In_ok-refusal_of_pattern) (sym c.in_ok-o.ensures) c.in_err-apply.ensures.does)

pub returns-clause-does : goal.returns-clause-does
returns-clause-does c =
    apply_done _ _ (passed (goal.at.returns-clause-does c).In_ok-refusal_of_pattern) (sym c.in_ok-o.ensures) c.in_ok-apply.ensures.does
