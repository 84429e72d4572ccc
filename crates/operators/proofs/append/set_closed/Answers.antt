-- `operators::append::set_closed` meets its contract: both tests have to pass, whichever is made first.
use mathlib.Core.Path.{◌≡◌, sym, ap, ◌∙◌}
use mathlib.Core.Bool.{Bool, not}
use Rattle.rules.specs.Good.{all_zero, closes}
use Rattle.rules.specs.Calls.{coefficients}
use Rattle.rules.specs.Complex.{layer}
use Rattle.maths.specs.Tests.{is_zero}
use Rattle.maths.proofs.Tests.{all_same}
use Rattle.grid.proofs.Cuts.{summands_first, sum_first}
use Rattle.operators.proofs.make.Closing.{set_open, set_shut}
use Rattle.operators.proofs.append.set_closed.Goals as goal
use Rattle.operators.proofs.append.set_closed.Goals.{After-columns_cancel, Start}

-- that the column is not zero
abbrev some : (c : Start) → Bool
some c = not (all_zero (coefficients c.args.column.now))

-- the test of the bytes is that of the chain
tested : (c : After-columns_cancel) → let a = c.args in
    closes 96 (layer a.n a.low.now) (coefficients a.column.now) ≡ c.columns_cancel.result
unfolding closes
tested c =
    sym (c.columns_cancel.ensures ∙ all_same 96 (λ i _. ap is_zero (sum_first c.requires.summands i)))

pub columns_cancel-requires : goal.columns_cancel-requires
columns_cancel-requires c = summands_first c.requires.summands

pub returns-then-not-columns_cancel : goal.returns-then-not-columns_cancel
returns-then-not-columns_cancel c =
    let a = c.args in
    set_open a.at a.column.now a.m.now (some (goal.at.returns-then-not-columns_cancel c).Start)
    (tested (goal.at.returns-then-not-columns_cancel c).After-columns_cancel ∙ c.if-not-columns_cancel.true)

pub returns : goal.returns
returns c =
    let a = c.args in
    c.set_some.ensures
    ∙ set_shut a.at a.column.now a.m.now (some (goal.at.returns c).Start)
    (tested (goal.at.returns c).After-columns_cancel ∙ c.if-not-columns_cancel.false)
