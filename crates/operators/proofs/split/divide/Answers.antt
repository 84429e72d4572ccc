-- `operators::split::divide` meets its contract: two tests, as in the definition, and then the stores of each matrix.
use Rattle.maths.specs.Tables.{column}
use Rattle.rules.specs.Operators.{chosen}
use Rattle.operators.specs.Part.{numbers}
use Rattle.operators.proofs.chosen.Lists.{column_held}
use Rattle.operators.proofs.split.Divisions.{Taken, got_part, got_none, the_column, part_under, wrong_part_lem, wrong_divider_lem, all-stored}
use Rattle.operators.proofs.split.divide.Goals as goal
use Rattle.operators.proofs.split.divide.Goals.{In-Some}

pub returns-in_default : goal.returns-in_default
returns-in_default c = wrong_part_lem _ _ _ _ _ _ _ _ (got_none _ _ (rw (c.column.ensures.is, column_held (the_column c.requires.splittable)) at c.in_default.ensures))

-- the part, of the column of the cell
part : (c : In-Some) → let a = c.args in let v = column a.mid.now a.cell in Taken (chosen a.dim (numbers a.faces.now) v) v c.in-Some.taken
part c = got_part _ _ (rw (c.column.ensures.is, column_held (the_column c.requires.splittable)) at c.in-Some.ensures)

pub boundary_of-requires : goal.boundary_of-requires
boundary_of-requires c = part_under c.requires.splittable (part (goal.at.boundary_of-requires c).In-Some)

pub returns-in_default-boundary_of : goal.returns-in_default-boundary_of
returns-in_default-boundary_of c = wrong_divider_lem _ _ _ _ _ _ _ _ (part (goal.at.returns-in_default-boundary_of c).In-Some) c.in_default-boundary_of.ensures

pub returns : goal.returns
returns c =
    all-stored _ _ _ _ _ _ _ _ (part (goal.at.returns c).In-Some) c.in-Some-boundary_of.ensures c.requires.splittable.least
    c.set_divider.ensures c.halve.ensures c.repeat_row.ensures
