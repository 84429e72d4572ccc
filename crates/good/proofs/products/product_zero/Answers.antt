-- `good::products::product_zero` meets its contract: every column passed so far closes, and the first that does not ends the loop.
use mathlib.Core.Path.{◌∙◌}
use native.Mathlib.Omega.{arith}
use Rattle.grid.proofs.Joined.{passed_none, passed_more, passed_not, passed_all}
use Rattle.good.proofs.Places.{high_line, first-summands, column-closes}
use Rattle.good.proofs.products.product_zero.Goals as goal

pub loop-j-init : goal.loop-j-init
loop-j-init c = passed_none _ _

pub columns_cancel-requires : goal.columns_cancel-requires
columns_cancel-requires c = rw c.column.ensures.is (first-summands c.requires.neighbours c.loop-j.j (omega arith))

pub column-requires : goal.column-requires
column-requires c = high_line c.requires.neighbours _ (omega arith)

pub returns-then-not-columns_cancel : goal.returns-then-not-columns_cancel
returns-then-not-columns_cancel c =
    let same = column-closes c.requires.neighbours c.loop-j.j (omega arith) (rw c.column.ensures.is at c.columns_cancel.ensures) in
    passed_not c.loop-j.invariant (omega arith) (same ∙ c.if-not-columns_cancel.true)

pub loop-j-preserved : goal.loop-j-preserved
loop-j-preserved c =
    let same = column-closes c.requires.neighbours c.loop-j.j (omega arith) (rw c.column.ensures.is at c.columns_cancel.ensures) in
    passed_more c.loop-j.invariant (omega arith) (same ∙ c.if-not-columns_cancel.false)

pub returns : goal.returns
returns c = passed_all c.loop-j.invariant (omega arith)
