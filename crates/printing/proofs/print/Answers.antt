-- `printing::print` meets its contract: what the run leaves can be printed, and each piece ends inside the buffer.
use borrow.Author.Rules.{rules}
use Rattle.rules.specs.Lending.{seen_by}
use Rattle.printing.proofs.Sizes.{printable}
use Rattle.printing.proofs.Rooms.{head-room, panel-room, block_room}
use Rattle.printing.proofs.print.Goals as goal

pub put_head-head-requires : goal.put_head-head-requires
put_head-head-requires g c = head-room _ (seen_by c.view-left.result) (printable _ c.run_input-run.result c.view-left.ensures c.run_input-run.ensures.does) _ (search rules)

pub put_cells_of-panels-requires-clause-room : goal.put_cells_of-panels-requires-clause-room
put_cells_of-panels-requires-clause-room g c = panel-room _ (seen_by c.view-left.result) (printable _ c.run_input-run.result c.view-left.ensures c.run_input-run.ensures.does) _ (search rules)

pub put_cells_of-blocks-requires-clause-room : goal.put_cells_of-blocks-requires-clause-room
put_cells_of-blocks-requires-clause-room g c = block_room _ (seen_by c.view-left.result) (printable _ c.run_input-run.result c.view-left.ensures c.run_input-run.ensures.does) _ (search rules)
