-- `operators::halves::halve` meets its contract: the row of t was zero, so its two entries are all of it.
use Rattle.operators.proofs.split.Stores.{halved}
use Rattle.operators.proofs.halves.halve.Goals as goal

pub returns : goal.returns
returns c =
    halved c.requires c.leave_rest.ensures c.set_entry.ensures c.set_column.ensures c.set_entry-2.ensures
