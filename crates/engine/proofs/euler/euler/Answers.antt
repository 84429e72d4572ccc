-- `engine::euler::euler` meets its contract: each return is one of the call's answers.
use mathlib.Core.Path.{sym, ◌∙◌}
use mir.Syntax.{w16}
use Rattle.maths.proofs.Sizes.{back}
use Rattle.rules.proofs.Branches.Refused.{handed_on}
use Rattle.engine.proofs.EulerAnswers.{euler-not-good, euler-accepted}
use Rattle.engine.proofs.euler.euler.Goals as goal

pub returns-in_err-refusal_of_pattern : goal.returns-in_err-refusal_of_pattern
returns-in_err-refusal_of_pattern c = rw (handed_on c.from_residual.ensures) (euler-not-good _ _ c.in_err-refusal_of_pattern.ensures)

pub returns : goal.returns
returns c = euler-accepted _ (sym c.in_ok-refusal_of_pattern.ensures) (back w16 c.alternating.type_inv ∙ c.alternating.ensures)
