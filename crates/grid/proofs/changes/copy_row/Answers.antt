-- `grid::changes::copy_row` meets its contract: row b is a copy of row a before the column at s.
use mathlib.Core.Path.{◌≡◌, refl, ◌∙◌}
use Prim.Native.Nat.{◌+◌}
use native.Mathlib.Nat.{zero-add}
use native.Mathlib.Omega.{arith}
use mir.Syntax.{w8}
use Rattle.maths.proofs.Sizes.{back}
use Rattle.grid.specs.Grid.{over, copied_row}
use Rattle.grid.proofs.Walks.{across_begin, across_old, across_store, across_end}
use Rattle.grid.proofs.changes.copy_row.Goals as goal

pub loop-s-init : goal.loop-s-init
loop-s-init c = (refl, rw zero-add (across_begin c.requires.size c.requires.second))

pub loop-s-preserved : goal.loop-s-preserved
loop-s-preserved c =
    let s = c.loop-s.invariant.1 in
    let next : c.loop-s.s + c.args.b + 96 ≡ c.loop-s.s + 96 + c.args.b = omega arith in
    (omega arith, rw next at (across_store s _ (omega arith) (back w8 c.m-1.given ∙ across_old s c.args.a _ (omega arith) (omega arith) (omega arith))))

pub returns : goal.returns
unfolding over copied_row
returns c = across_end c.loop-s.invariant.1 (omega arith)
