-- `grid::changes::add_column` meets its contract: column b is added to the rows below i of column a, and row i is still the old one.
use native.Mathlib.Omega.{arith}
use mir.Syntax.{w8}
use Rattle.maths.proofs.Sizes.{plus_fits, plus-is}
use Rattle.grid.specs.Grid.{over, added_column}
use Rattle.grid.proofs.Walks.{down_begin, down_old, down_here, down_store, down_end, room_for_two}
use Rattle.grid.proofs.changes.add_column.Goals as goal

pub loop-i-init : goal.loop-i-init
loop-i-init c = down_begin c.requires.size c.requires.first

pub overflow_add-m-in-loop-i-2 : goal.overflow_add-m-in-loop-i-2
overflow_add-m-in-loop-i-2 c =
    let s = c.loop-i.invariant in
    plus_fits w8 (down_here s (omega arith)) (down_old s _ (omega arith) (omega arith)) (room_for_two c.requires.units _ _ _)

pub loop-i-preserved : goal.loop-i-preserved
loop-i-preserved c =
    let s = c.loop-i.invariant in
    down_store s _ (omega arith)
    (plus-is w8 (down_here s (omega arith)) (down_old s _ (omega arith) (omega arith)) (room_for_two c.requires.units _ _ _))

pub returns : goal.returns
unfolding over added_column
returns c = down_end c.loop-i.invariant (omega arith)
