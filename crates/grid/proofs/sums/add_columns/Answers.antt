-- `grid::sums::add_columns` meets its contract: after j turns the sums are those of the first j columns, so they stay small.
use mathlib.Core.Path.{◌∙◌}
use native.Mathlib.Omega.{arith}
use mir.Syntax.{w8}
use mir.Facts.{to_z-of_z}
use Rattle.maths.proofs.Sizes.{fits_size}
use Rattle.grid.specs.Grid.{nth}
use Rattle.grid.proofs.Summing.{summing_none, summing_room, summing_more, summing_all}
use Rattle.grid.proofs.sums.add_columns.Goals as goal

pub loop-j-init : goal.loop-j-init
loop-j-init c = summing_none c.requires.blank

pub column-requires : goal.column-requires
column-requires c = record { size = c.requires.summands.size; inside = omega (arith, c.requires.summands.few) }

pub add_times-requires-clause-addable : goal.add_times-requires-clause-addable
add_times-requires-clause-addable c =
    rw c.column.ensures.is (summing_room c.requires.summands c.loop-j.invariant (omega arith))

pub loop-j-preserved : goal.loop-j-preserved
loop-j-preserved c =
    let j = c.loop-j.j in
    let p = c.requires.summands in
    let given = to_z-of_z {w = w8} (fits_size {z = nth c.args.chain.now j} (omega (arith, p.small j (omega arith)))) in
    summing_more p c.loop-j.invariant (omega arith) given (c.add_times.ensures ∙ rw c.column.ensures.is)

pub returns : goal.returns
returns c = summing_all c.requires.summands c.loop-j.invariant (omega arith)
