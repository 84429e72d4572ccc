-- `good::columns::column_in_place` meets its contract: the two parts are those of the definition, and end with the column.
use native.Mathlib.Omega.{arith}
use Rattle.maths.specs.Tests.{is_zero, is_unit}
use Rattle.grid.proofs.Cuts.{all_first, all_after}
use Rattle.good.specs.Columns.{column_in_place}
use Rattle.good.proofs.columns.column_in_place.Goals as goal

pub returns : goal.returns
unfolding column_in_place
returns c =
    let a = c.args in
    rw (c.are_units.ensures, c.are_zero.ensures, all_first is_unit a.rows a.column.now (omega (arith, c.requires.long, c.requires.short)), all_after is_zero a.rows a.column.now, c.requires.long)
