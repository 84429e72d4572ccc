-- `listing::pieces::put_cells` meets its contract: the lines of the cells below j are put, each in at most 400 bytes.
use native.Mathlib.Omega.{arith}
use Rattle.listing.proofs.Columns.{begun_none, begun_more, begun_all}
use Rattle.listing.proofs.pieces.put_cells.Goals as goal

pub loop-j-preserved : goal.loop-j-preserved
loop-j-preserved c =
    begun_more c.loop-j.invariant (omega arith) c.line_cell-next.ensures

pub loop-j-init : goal.loop-j-init
loop-j-init c = begun_none _ _

pub returns : goal.returns
returns c = begun_all c.loop-j.invariant (omega arith)
