-- `operators::merge::join` meets its contract: the three loops, one after another, leave the matrix in which the two cells are one.
use mathlib.Core.Path.{ap, ◌∙◌}
use Rattle.grid.specs.Grid.{over, removed_column, removed_row}
use Rattle.operators.proofs.Patterns.Forms.{merged-is}
use Rattle.operators.proofs.merge.join.Goals as goal

pub returns : goal.returns
returns c =
    c.remove_row.ensures
    ∙ ap (over (removed_row _)) (c.remove_column.ensures ∙ ap (over (removed_column _)) c.add_column.ensures)
    ∙ merged-is c.args.t c.args.a c.args.b _ c.requires.less c.requires.high 0
