-- `grid::changes::negate_row` meets its contract: row r is negated before the place p.
use native.Mathlib.Omega.{arith}
use mir.Syntax.{w8}
use Rattle.maths.proofs.Sizes.{neg_fits, neg_is}
use Rattle.grid.specs.Grid.{over, negated_row}
use Rattle.grid.proofs.Walks.{across_begin, across_here, across_store, across_end, room}
use Rattle.grid.proofs.changes.negate_row.Goals as goal

pub loop-p-init : goal.loop-p-init
loop-p-init c = across_begin c.requires.size c.requires.inside

pub overflow_sub-m : goal.overflow_sub-m
overflow_sub-m c =
    neg_fits w8 (across_here c.loop-p.invariant (omega arith)) (room c.requires.units _ _)

pub loop-p-preserved : goal.loop-p-preserved
loop-p-preserved c =
    let s = c.loop-p.invariant in
    across_store s _ (omega arith) (neg_is w8 (across_here s (omega arith)) (room c.requires.units _ _))

pub returns : goal.returns
unfolding over negated_row
returns c = across_end c.loop-p.invariant (omega arith)
