-- `operators::halves::leave_rest` meets its contract: the rows below i of column c have the rest, and row i is still the old one.
use mathlib.Core.Path.{ap₂, ◌∙◌}
use mathlib.Core.Bool.{cond}
use native.Mathlib.Omega.{arith}
use lib.IntN.{pos}
use mir.Syntax.{w8}
use Rattle.maths.specs.Tests.{is_zero}
use Rattle.maths.proofs.Sizes.{back}
use Rattle.grid.specs.Grid.{over}
use Rattle.grid.proofs.Walks.{down_here, down_store, down_end}
use Rattle.operators.specs.Split.{with_rest}
use Rattle.operators.proofs.halves.leave_rest.Goals as goal

pub loop-i-preserved : goal.loop-i-preserved
loop-i-preserved c =
    let s = c.loop-i.invariant in
    let x = back w8 (omega arith) ∙ down_here s (omega arith) in
    let y = back w8 (omega arith) in
    down_store s _ (omega arith) (back w8 c.rest8.type_inv ∙ c.rest8.ensures ∙ ap₂ (λ x y. cond (is_zero y) x (pos 0)) x y)

pub returns : goal.returns
unfolding over with_rest
returns c = down_end c.loop-i.invariant (omega arith)
