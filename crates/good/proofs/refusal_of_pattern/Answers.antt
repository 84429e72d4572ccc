-- `good::refusal_of_pattern` meets its contract: the lengths are tested first, and the other tests need no more than them.
use mathlib.Core.Path.{◌≡◌, sym, ◌∙◌}
use mathlib.Core.Bool.{true}
use Rattle.rules.specs.Calls.{sized}
use Rattle.rules.specs.Lending.{seen_by}
use Rattle.good.proofs.Parts.{tested-short, tested_bad, tested-good}
use Rattle.good.proofs.refusal_of_pattern.Goals as goal
use Rattle.good.proofs.refusal_of_pattern.Goals.{Else-not-is_sized}

-- the lengths are right
long : (c : Else-not-is_sized) → sized (seen_by c.args.p) ≡ true
long c = sym c.is_sized.ensures ∙ c.if-not-is_sized.false

pub returns-then-not-is_sized : goal.returns-then-not-is_sized
returns-then-not-is_sized c = sym (tested-short _ (sym c.is_sized.ensures ∙ c.if-not-is_sized.true))

pub returns-then-not-is_good : goal.returns-then-not-is_good
returns-then-not-is_good c = sym (tested_bad _ (long (goal.at.returns-then-not-is_good c).Else-not-is_sized) (sym c.is_good.ensures ∙ c.if-not-is_good.true))

pub returns : goal.returns
returns c = sym (tested-good _ (long (goal.at.returns c).Else-not-is_sized) (sym c.is_good.ensures ∙ c.if-not-is_good.false))
