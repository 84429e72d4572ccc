-- `grid::sums::columns_cancel` meets its contract: the sums hold the columns' sum, and so does their test.
use mathlib.Core.Path.{◌∙◌}
use Rattle.grid.proofs.Summing.{blank, all-zero}
use Rattle.grid.proofs.sums.columns_cancel.Goals as goal

pub add_columns-requires : goal.add_columns-requires
add_columns-requires c = record { blank = blank; summands = c.requires }

pub returns : goal.returns
returns c = c.are_zero.ensures ∙ rw c.add_columns.ensures (all-zero _)
