-- `grid::changes::set_column` meets its contract: one column is written.
use native.Mathlib.Omega.{arith}
use Rattle.grid.specs.Grid.{over, with_column}
use Rattle.grid.proofs.Written.{column_written}
use Rattle.grid.proofs.changes.set_column.Goals as goal

pub returns : goal.returns
unfolding over with_column
returns c = rw c.copy_from_slice.ensures.after (column_written _ _ c.args.c _ (omega arith) c.requires.size c.requires.inside c.requires.long)
