-- `engine::boundary::add_times` meets its contract: in turn i sum i is still the old one, and leaves room for a term.
use mathlib.Core.Path.{◌∙◌}
use native.Mathlib.Omega.{arith}
use mir.Facts.{to_z-of_z}
use Rattle.grid.proofs.Adding.{adding_more, adding_end}
use Rattle.engine.proofs.Products.{sum_fits, sum-is}
use Rattle.engine.proofs.boundary.add_times.Goals as goal

pub overflow_add-sums : goal.overflow_add-sums
overflow_add-sums c =
    sum_fits (c.requires.term c.loop-i.i (omega arith)) (c.loop-i.invariant.filled.rest c.loop-i.i (omega arith))

pub loop-i-preserved : goal.loop-i-preserved
loop-i-preserved c =
    adding_more c.loop-i.invariant _ (omega arith)
    (sum-is (c.requires.term c.loop-i.i (omega arith)) (c.loop-i.invariant.filled.rest c.loop-i.i (omega arith)) ∙ rw (to_z-of_z c.ranges.v))

pub returns : goal.returns
returns c = rw (to_z-of_z c.ranges.v) at (adding_end c.loop-i.invariant (omega arith))
